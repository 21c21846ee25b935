-- Since when each cell of a start file is accepted from each state.
-- Assumes nothing.
pub mod Laws
pub mod Turns
use Rattle.std.specs.Prelude.{ℕ, ◌+◌, ◌*◌, ◌≤◌, ◌<◌, ◌≡◌, List, length, get_or}
use Rattle.replies.specs.declared.Acceptance.{Acceptance}
use Rattle.replies.specs.Numbers.{answer_word}
use Rattle.automata.specs.Automaton.{edges}
use Rattle.automata.specs.Saturation.{Saturated}
use Rattle.rounds.specs.Won.{final_round, symbol_round, above_round, round_of_stack}
use Rattle.walks.specs.Cell.{Cell, empty1, symbol, empty2, above, stacks, stack_at}
use Rattle.walks.specs.Cell.Formed.{order_at}
use Rattle.acceptance_words.specs.Rows.{round_in}

-- the order of the annotation of a symbol
unfoldable pub annotation_order_at : List Cell → Cell → ℕ
annotation_order_at cells empty1 = 0
annotation_order_at cells (symbol a u s) = order_at cells u
annotation_order_at cells empty2 = 0
annotation_order_at cells (above w t) = 0

-- the cell refers to cells before cell n
abbrev pub PartsBelow : ℕ → Cell → Type 0
PartsBelow n empty1 = Unit {0}
PartsBelow n (symbol a u s) = (u < n) × (s < n)
PartsBelow n empty2 = Unit {0}
PartsBelow n (above w t) = (w < n) × (t < n)

-- since when a cell is accepted from state q, by the words of the cells that it refers to, where a symbol's annotation is of order k
unfoldable pub cell_round : Saturated → ℕ → List ℕ → Cell → ℕ → Acceptance
cell_round T k rounds empty1 q = final_round T.table.final1 q
cell_round T k rounds (symbol a u s) q = symbol_round T.sizes a k (round_in rounds u) (round_in rounds s) T.table.moves q
cell_round T k rounds empty2 q = final_round T.table.final2 q
cell_round T k rounds (above w t) q = above_round (round_in rounds w) (round_in rounds t) (edges T.table) q

-- The words of the first n cells say since when their stacks are accepted from each of 64 states.
pub record RoundsStand (T : Saturated) (cells : List Cell) (rounds : List ℕ) (n : ℕ) : Type 0 where
  pub word_is : (i q : ℕ) → i < n → q < 64 → get_or rounds (i * 64 + q) 0 ≡ answer_word (round_of_stack T (stack_at (stacks cells) i) q)

-- They do, and all other words are as they were.
pub record RoundsFilled (T : Saturated) (cells : List Cell) (before after : List ℕ) (n : ℕ) : Type 0 where
  pub long : length after ≡ length before
  pub filled : RoundsStand T cells after n
  pub others : (x : ℕ) → n * 64 ≤ x → get_or after x 0 ≡ get_or before x 0
