-- `added_results::enter` meets its contract.
-- Assumes nothing.
use native.Mathlib.Omega.{arith}
use Rattle.added_results.specs.Adding.Laws.{entered_there, entered_over, entered_new}
use Rattle.added_results.proofs.enter.Goals as goal

pub returns-in-Some-clause-entered : goal.returns-in-Some-clause-entered
returns-in-Some-clause-entered c = entered_there _ _ _ _ _ c.in-Some.ensures.number c.requires.0 c.in-Some.ensures.there

pub returns-then-most-n-clause-entered : goal.returns-then-most-n-clause-entered
returns-then-most-n-clause-entered c =
    entered_over _ _ _ _ _ c.in_default.ensures.number c.requires.0 (omega arith) c.if-most-n.true

pub returns-clause-entered : goal.returns-clause-entered
returns-clause-entered c =
    entered_new _ _ _ _ _ c.in_default.ensures.number c.requires.0 _ (omega arith) c.if-most-n.false c.requires.1 c.put_entry.ensures
