-- `cell_steps::choose_copied` meets its contract.
-- Assumes nothing.
use mathlib.Core.List.{[], ◌∷◌}
use Rattle.cell_steps.specs.Steps.{with_chosen, step_chosen}
use Rattle.cell_steps.specs.Steps.Laws.{put_one, put_then, put_more}
use Rattle.cell_steps.proofs.choose_copied.Goals as goal

pub returns : goal.returns
unfolding with_chosen step_chosen
returns c =
    put_more with_chosen _ _ (_ ∷ _ ∷ []) _
    (put_then with_chosen _ _ _ _ c.put_choices.ensures (put_one with_chosen _ _ _ c.put_choices-2.ensures))
    c.choose_top.ensures
