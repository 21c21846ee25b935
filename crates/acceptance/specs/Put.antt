-- A cell's row of words as it is put: with a move more, zero before, and by its answers.
-- Assumes nothing.
pub mod Laws
pub mod Turns
use Rattle.std.specs.Prelude.{ℕ, ◌+◌, ◌*◌, ◌≤◌, ◌<◌, true, false, ◌≡◌, List, length, get_or, eqb}
use Rattle.replies.specs.declared.Acceptance.{Acceptance}
use Rattle.replies.specs.declared.Acceptance.TheVariants.{Since}
use Rattle.replies.specs.Numbers.{answer_word}
use Rattle.automata.specs.Automaton.{Move}
use Rattle.rounds.specs.Won.{later, move_round}
use Rattle.acceptance_words.specs.Rows.{round_in, with_earlier}

-- the words of cell i, symbol a on s annotated by u of order k, with what a move of this round adds
unfoldable pub with_move : List ℕ → ℕ → ℕ → ℕ → ℕ → ℕ → ℕ → Move → List ℕ
with_move rounds i round a k u s m = elim (eqb m.symbol a) [
  | true ↦ with_earlier rounds i m.state (later (Since round) (move_round k (round_in rounds u) (round_in rounds s) m))
  | false ↦ rounds
]

-- The words of cell i are zero.
abbrev pub RowZero : List ℕ → ℕ → Type 0
RowZero rounds i = (q : ℕ) → q < 64 → get_or rounds (i * 64 + q) 0 ≡ 0

-- The words of cell i are those of the answers f, and all others are as they were.
pub record RowPut (before : List ℕ) (i : ℕ) (f : ℕ → Acceptance) (after : List ℕ) : Type 0 where
  pub long : length after ≡ length before
  pub here : (q : ℕ) → q < 64 → get_or after (i * 64 + q) 0 ≡ answer_word (f q)
  pub below : (x : ℕ) → x < i * 64 → get_or after x 0 ≡ get_or before x 0
  pub above : (x : ℕ) → i * 64 + 64 ≤ x → get_or after x 0 ≡ get_or before x 0
