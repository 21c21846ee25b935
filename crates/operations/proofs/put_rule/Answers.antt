-- `operations::put_rule` meets its contract.
-- Assumes nothing.
use mathlib.Core.Path.{ap, ◌∙◌}
use mathlib.Core.List.{[], ◌∷◌}
use Prim.Native.Nat.{ℕ, ◌*◌}
use native.Mathlib.Omega.{arith}
use lib.Seq.{sets}
use lib.ListN.{get_or}
use Rattle.files.specs.Codes.{in_our_codes}
use Rattle.files.specs.Codes.Laws.{our_code_few}
use Rattle.operations.proofs.put_rule.Goals as goal

pub overflow_cast-code : goal.overflow_cast-code
overflow_cast-code c =
    let f = our_code_few c.args.codes.now (get_or c.args.x.now 2 0) in
    record { fits = omega (arith, c.unwrap_or-code.ensures, c.our_code.ensures) }

pub returns : goal.returns
unfolding in_our_codes
returns c =
    c.put_bytes.ensures
    ∙ ap (λ (k : ℕ). sets c.args.rules.now (c.args.i * 5) (get_or c.args.x.now 0 0 ∷ get_or c.args.x.now 1 0 ∷ k ∷ get_or c.args.x.now 3 0 ∷ get_or c.args.x.now 4 0 ∷ []))
    (c.unwrap_or-code.ensures ∙ c.our_code.ensures)
