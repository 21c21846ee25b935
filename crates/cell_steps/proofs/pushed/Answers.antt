-- `cell_steps::pushed` meets its contract.
-- Assumes nothing.
use Rattle.cell_memory.specs.Memory.{cell_of}
use Rattle.cell_steps.specs.Steps.Laws.{at_first, at_next}
use Rattle.cell_steps.proofs.pushed.Goals as goal

pub returns-then-i-eq0 : goal.returns-then-i-eq0
unfolding cell_of
returns-then-i-eq0 c = at_first _ _ c.if-i-eq0.true

pub returns : goal.returns
returns c = at_next _ _ _ c.if-i-eq0.false c.topping.ensures
