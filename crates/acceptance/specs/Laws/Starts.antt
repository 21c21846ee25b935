-- The words of a start file's cells say since when each start is accepted.
-- Assumes nothing.
use Rattle.std.specs.Prelude.{ℕ, ◌<◌, ◌≡◌, List, length}
use Rattle.std.proofs.Common.{ap, ◌∙◌}
use Rattle.automata.specs.Saturation.{Saturated}
use Rattle.replies.specs.declared.Acceptance.{Acceptance}
use Rattle.rounds.specs.Won.{round1, round2, round_of_stack}
use Rattle.walks.specs.Cell.{stacks, stack_at}
use Rattle.walks.specs.Cell.Laws.{stack_order, annotation_of2}
use Rattle.walks.specs.Cell.Formed.{order_at}
use Rattle.files.specs.Start.{Start, cells_of, configuration_of}
use Rattle.acceptance_words.specs.Rows.{round_in}
use Rattle.acceptance.specs.Cells.{RoundsStand}
use Rattle.acceptance.specs.Cells.Laws.{StatesBelow, round_filled}

-- the word of the root and the control says since when the start is accepted
pub start_round_lem : (T : Saturated) → StatesBelow T.table → (file : List ℕ) {rounds : List ℕ} {n : ℕ} → RoundsStand T (cells_of file) rounds n
    → (x : Start) → x.root < n → x.root < length (cells_of file)
    → order_at (cells_of file) x.root ≡ 2 → round_in rounds x.root x.control ≡ round2 T (configuration_of file x).stack x.control
unfolding configuration_of round1
start_round_lem T B file F x h there e =
    ap (λ (f : ℕ → Acceptance). f x.control)
    (round_filled T B (cells_of file) F x.root h
    ∙ ap (round_of_stack T) (annotation_of2 (stack_at (stacks (cells_of file)) x.root) (stack_order (cells_of file) x.root there ∙ e)))
