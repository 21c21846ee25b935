-- `cell_steps::put_step` meets its contract.
-- Assumes nothing.
use Rattle.cell_steps.specs.Steps.Laws.{step_guided}
use borrow.Author.Rules.{rules}
use Rattle.cell_steps.proofs.put_step.Goals as goal

pub returns : goal.returns
returns c =
    step_guided _ _ _ _ _ _ _ _ _ _ _ _ _ (search rules) (search rules) (search rules) (search rules) (search rules) c.put_cells.ensures c.put_chosen.ensures
