-- The number of moves that the row of an entry holds.
-- Assumes nothing.
pub mod Laws
use Rattle.std.specs.Prelude.{ℕ, ◌+◌, ◌<◌, ◌≡◌, List}
use Rattle.automata.specs.Automaton.{Move}
use Rattle.services.specs.Memory.{Counted, move_count}
use Rattle.tables.specs.declared.Table.{Table}
use Rattle.tables.specs.Rows.{row_at, rows_in, put_row}
use Rattle.tables.specs.Layouts.{move_row, counted_row}

-- the entry with one move more
abbrev pub one_more : Counted → Counted
one_more c = record { entry = c.entry; moves = c.moves + 1 }

-- the table in which the entry in row i has one move more
unfoldable pub raised : List ℕ → ℕ → List ℕ
raised t i = put_row counted_row t i (one_more (row_at counted_row t i))

-- "It must equal the count by walking": so it does in the first n rows, the first being order-1 state J, where these are the moves.
pub record CountsAre (J n : ℕ) (entries : List ℕ) (ms : List Move) : Type 0 where
  pub count_is : (i : ℕ) → i < n → (row_at counted_row entries i).moves ≡ move_count ms (J + i)

-- The tables hold an automaton, and the number of its moves with each entry.
abbrev pub CountsStand : Table → List ℕ → List ℕ → Type 0
CountsStand z entries moves = CountsAre z.inner1 z.entries entries (rows_in move_row z.moves moves)
