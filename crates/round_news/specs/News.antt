-- The moves from one number up to another: their symbols, and the states that have none of them on a symbol.
-- Assumes nothing.
pub mod Laws
use Rattle.std.specs.Prelude.{ℕ, ◌%◌, ◌≤◌, ◌<◌, true, false, ◌≡◌, List, eqb}
use Rattle.words.specs.Sets.{member}
use Rattle.words.proofs.Sets.Laws.{Has}
use Rattle.sets.specs.Without.{without}
use Rattle.automata.specs.Automaton.{Move}
use Rattle.tables.specs.Rows.{row_at}
use Rattle.tables.specs.Layouts.{move_row}

-- The symbols of the moves from number `from` up to `to` are members of s, symbol a as a % 64.
pub record HasSymbols (moves : List ℕ) (from to s : ℕ) : Type 0 where
  pub has_symbol : (i : ℕ) → from ≤ i → i < to → Has s ((row_at move_row moves i).symbol % 64)

-- No member of s is a state that has a move on symbol a among those from number `from` up to `to`.
pub record NoneHas (moves : List ℕ) (from to a s : ℕ) : Type 0 where
  pub none_has : (i : ℕ) → from ≤ i → i < to → (row_at move_row moves i).symbol ≡ a → (row_at move_row moves i).state < 64
      → Has s (row_at move_row moves i).state → ⊥

-- the states s, without the state of m where m is a move on symbol a
unfoldable pub unsettled : ℕ → Move → ℕ → ℕ
unsettled s m a = elim (eqb m.symbol a) [
  | true ↦ elim (member s (m.state % 64)) [ true ↦ without s (m.state % 64) | false ↦ s ]
  | false ↦ s
]
