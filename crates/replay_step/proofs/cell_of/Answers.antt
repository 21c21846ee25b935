-- `replay_step::cell_of` meets its contract.
-- Assumes nothing.
use Rattle.cell_memory.specs.Memory.{cell_of}
use Rattle.cell_steps.specs.Steps.{cell_number}
use Rattle.start_records.specs.Body.Laws.{cells_in_at}
use Rattle.replay_step.specs.Top.Laws.{cell_past}
use borrow.Author.Rules.{rules}
use Rattle.replay_step.proofs.cell_of.Goals as goal

pub returns-then-at-n : goal.returns-then-at-n
unfolding cell_number
returns-then-at-n c = cells_in_at _ _ (search rules) c.cell_at.ensures

pub returns : goal.returns
unfolding cell_of
returns c = cell_past _ _ (search rules)
