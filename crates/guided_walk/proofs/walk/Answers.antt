-- `guided_walk::walk` meets its contract.
-- Assumes nothing.
use mathlib.Core.Path.{◌∙◌}
use Rattle.guided_walk.specs.Turns.Whole.{ends_halted, ends_stuck}
use Rattle.guided_walk.specs.Turns.Laws.{answers_as}
use Rattle.guided_walk.proofs.walk.Goals as goal

pub returns-in-Halted : goal.returns-in-Halted
returns-in-Halted c =
    let a = answers_as _ _ _ _ _ _ _ _ c.in-Halted.is c.advance.ensures in
    ends_halted _ _ _ c.loop-h.invariant.0 c.requires.cells_le_most.1 a.0 a.1

pub returns-in-Stuck : goal.returns-in-Stuck
returns-in-Stuck c =
    let a = answers_as _ _ _ _ _ _ _ _ c.in-Stuck.is c.advance.ensures in
    let inv = c.loop-h.invariant in
    ends_stuck _ _ _ inv.0 c.requires.cells_le_most.1 _ a c.zero.ensures (c.advance.auto.trace ∙ inv.0.long)
