-- `guided_step::cell_of` meets its contract.
-- Assumes nothing.
use Rattle.guided_step.specs.Walks.Laws.{cell_there, cell_past}
use Rattle.guided_step.proofs.cell_of.Goals as goal

pub returns-then-at-n : goal.returns-then-at-n
returns-then-at-n c = cell_there _ _ _ c.if-at-n.true c.cell_at.ensures

pub returns : goal.returns
returns c = cell_past _ _ _ c.if-at-n.false
