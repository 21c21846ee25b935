-- `cell_steps::choose_top` meets its contract.
-- Assumes nothing.
use Rattle.cell_steps.specs.Steps.{with_chosen}
use Rattle.cell_steps.specs.Steps.Laws.{put_one, put_then}
use Rattle.cell_steps.proofs.choose_top.Goals as goal

pub returns : goal.returns
unfolding with_chosen
returns c = put_then with_chosen _ _ _ _ c.put_choice.ensures (put_one with_chosen _ _ _ c.put_choice-2.ensures)
