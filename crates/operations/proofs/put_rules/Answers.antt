-- `operations::put_rules` meets its contract.
-- Assumes nothing.
use Prim.Native.Nat.{ℕ, ◌*◌}
use Rattle.operations.specs.Laws.Rules.{put_none, put_more}
use mathlib.Core.Path.{ap, ◌∙◌}
use mathlib.Core.List.{List}
use lib.Seq.{sets}
use Rattle.files.specs.Codes.{in_our_codes}
use Rattle.operations.proofs.put_rules.Goals as goal

pub loop-i-init : goal.loop-i-init
loop-i-init c = put_none _ _ _ _

pub loop-i-preserved : goal.loop-i-preserved
loop-i-preserved c =
    put_more c.loop-i.invariant c.loop-i-test.true
    (c.put_rule.ensures
    ∙ ap (λ (x : List ℕ). sets c.loop-i.rules (c.loop-i.i * 5) (in_our_codes c.args.codes.now x)) c.record-x.ensures.value)
