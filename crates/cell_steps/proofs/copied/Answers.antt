-- `cell_steps::copied` meets its contract.
-- Assumes nothing.
use Rattle.walks.specs.Cell.{cells_after}
use Rattle.cell_steps.specs.Steps.Laws.{at_lower, at_upper}
use Rattle.cell_steps.proofs.copied.Goals as goal

pub returns-then-i-lt2 : goal.returns-then-i-lt2
unfolding cells_after
returns-then-i-lt2 c = at_lower _ _ _ _ _ c.if-i-lt2.true c.topping.ensures

pub returns : goal.returns
unfolding cells_after
returns c = at_upper _ _ _ _ _ c.if-i-lt2.false c.topping-2.ensures
