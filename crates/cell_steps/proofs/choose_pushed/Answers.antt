-- `cell_steps::choose_pushed` meets its contract.
-- Assumes nothing.
use Rattle.cell_steps.specs.Steps.{with_chosen}
use Rattle.cell_steps.specs.Steps.Laws.{put_then}
use Rattle.cell_steps.proofs.choose_pushed.Goals as goal

pub returns : goal.returns
unfolding with_chosen
returns c = put_then with_chosen _ _ _ _ c.put_choices.ensures c.choose_top.ensures
