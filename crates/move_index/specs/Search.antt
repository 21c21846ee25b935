-- The search for a move along the chain of its key.
-- Assumes nothing.
pub mod Laws
use Rattle.std.specs.Prelude.{ℕ, suc, ◌≤◌, ◌<◌, false, ◌≡◌, List}
use Rattle.automata.specs.Automaton.{Move}
use Rattle.tables.specs.Rows.{row_at}
use Rattle.tables.specs.Layouts.{move_row}
use Rattle.move_index.specs.Keys.{words_key, same_move}

-- the key of move i by all its words
abbrev pub words_key_at : List ℕ → ℕ → ℕ
words_key_at moves i = words_key (row_at move_row moves i)

-- None of the n moves from number c on is m, and the move before number c, where there is one, has the key of m.
pub record Missed (moves : List ℕ) (n : ℕ) (m : Move) (c : ℕ) : Type 0 where
  pub within : c ≤ n
  pub keyed : (i : ℕ) → c ≡ suc i → words_key_at moves i ≡ words_key m
  pub differ : (i : ℕ) → c ≤ i → i < n → same_move m (row_at move_row moves i) ≡ false
