-- Results added to tables, one after another.
-- Assumes nothing.
pub mod Laws
pub mod Exist
use Rattle.std.specs.Prelude.{ℕ, ◌+◌, ◌*◌, ◌≤◌, ◌<◌, max, ◌≡◌, List, length, take, Option, Some, None}
use Rattle.automata.specs.Automaton.{Automaton, Move, Entry, move_at}
use Rattle.automata.specs.Facts.{states}
use Rattle.automata.specs.Derivation.{Result}
use Rattle.automata.specs.Saturation.{entry_number, with_entry, add_all}
use Rattle.services.specs.Memory.{entry_width, move_count}
use Rattle.tables.specs.declared.Table.{Table}
use Rattle.tables.specs.Rows.{rows_in}
use Rattle.tables.specs.Layouts.{entry_row, move_row}
use Rattle.tables.specs.Held.{automaton_of}
use Rattle.tables.specs.Counts.{CountsAre, CountsStand}
use Rattle.tables.specs.Laws.Filled.{Filled}

-- From the first n rows of table t, entry e has number i, and t' has it, if i is below `most`. Counts by walking stay so, where entry n has no moves if it
-- is new.
pub record Entered (t : List ℕ) (n most : ℕ) (e : Entry) (i : ℕ) (t' : List ℕ) : Type 0 where
  pub number : i ≡ entry_number e.control e.S (rows_in entry_row n t)
  pub rows : i < most → rows_in entry_row (max n (i + 1)) t' ≡ with_entry e.control e.S (rows_in entry_row n t)
  pub within : i ≤ n
  pub over : most ≤ i → most < length (with_entry e.control e.S (rows_in entry_row n t))
  pub filled : i < most → Filled entry_row n t → Filled entry_row (max n (i + 1)) t'
  pub counts : i < most → (J : ℕ) (ms : List Move) → move_count ms (J + n) ≡ 0 → CountsAre J n t ms → CountsAre J (max n (i + 1)) t' ms
  pub kept : most ≤ i → t' ≡ t
  pub long : length t' ≡ length t

-- There is room for `most` entries, which with the inner order-1 states are at most 64, and there are no more.
pub record Growing (z : Table) (most : ℕ) (entries : List ℕ) : Type 0 where
  pub entries_few : z.entries ≤ most
  pub entries_lent : most * entry_width ≤ length entries
  pub states_few : z.inner1 + most ≤ 64

-- Every move is one of an order-1 state that exists.
pub record StatesExist (A : Automaton) : Type 0 where
  pub exists : (i : ℕ) → i < length A.moves → (move_at A i).state < states A

-- The tables of z' are those of z with the results xs added.
pub record Grows (z : Table) (entries moves : List ℕ) (xs : List Result) (z' : Table) (entries' moves' : List ℕ) : Type 0 where
  pub same_states : z'.inner1 ≡ z.inner1
  pub same_edges : z'.edges ≡ z.edges
  pub table_is : (inner : List ℕ) → automaton_of z' inner entries' moves' ≡ add_all (automaton_of z inner entries moves) xs
  pub moves_more : z'.moves ≡ z.moves + length xs
  pub entries_filled : Filled entry_row z.entries entries → Filled entry_row z'.entries entries'
  pub moves_filled : Filled move_row z.moves moves → Filled move_row z'.moves moves'
  pub entries_long : length entries' ≡ length entries
  pub moves_long : length moves' ≡ length moves

-- There is no room for the entries of the results xs.
pub record Over (z : Table) (most : ℕ) (entries moves : List ℕ) (xs : List Result) (entries' moves' : List ℕ) : Type 0 where
  pub over : (inner : List ℕ) → most < length (add_all (automaton_of z inner entries moves) xs).entries
  pub entries_long : length entries' ≡ length entries
  pub moves_long : length moves' ≡ length moves

-- The results xs were added, with at most so many entries, or there is no room for their entries.
abbrev pub Added : Table → ℕ → List ℕ → List ℕ → List Result → Option Table → List ℕ → List ℕ → Type 0
Added z most entries moves xs (Some z') entries' moves' = Grows z entries moves xs z' entries' moves' × (z'.entries ≤ most)
Added z most entries moves xs None entries' moves' = Over z most entries moves xs entries' moves'

-- The first of the results xs were added, those before the one for whose entry there was no room, and the entries have the numbers of their moves.
pub record CountsBefore (z : Table) (most : ℕ) (entries moves : List ℕ) (xs : List Result) (entries' moves' : List ℕ) : Type 0 where
  pub table : Table
  pub added : ℕ
  pub fewer : added < length xs
  pub grows : Grows z entries moves (take added xs) table entries' moves'
  pub few : table.entries ≤ most
  pub over : Over z most entries moves (take (added + 1) xs) entries' moves'
  pub counted : CountsStand table entries' moves'

-- The entries of the table, or of the last before there was no room, have the numbers of their moves.
abbrev pub CountsKept : Table → ℕ → List ℕ → List ℕ → List Result → Option Table → List ℕ → List ℕ → Type 0
CountsKept z most entries moves xs (Some t) entries' moves' = CountsStand t entries' moves'
CountsKept z most entries moves xs None entries' moves' = CountsBefore z most entries moves xs entries' moves'
