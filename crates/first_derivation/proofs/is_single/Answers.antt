-- `first_derivation::is_single` meets its contract.
-- Assumes nothing.
use native.Mathlib.Omega.{arith}
use Rattle.first_derivation.specs.Premises.Laws.{single_past}
use borrow.Author.Rules.{rules}
use Rattle.first_derivation.proofs.is_single.Goals as goal

pub returns-else-n : goal.returns-else-n
returns-else-n c =
    let past = single_past c.args.n c.args.s (omega (arith, c.if-n.false)) (search rules) in
    grind (arith, past)
