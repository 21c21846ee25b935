-- The case's own automaton in three tables.
-- Assumes nothing.
pub mod Laws
use Rattle.std.specs.Prelude.{ℕ, ◌+◌, ◌*◌, ◌≤◌, ◌≡◌, List, length}
use Rattle.files.specs.Bytes.{count_of}
use Rattle.files.specs.Case.{own_of}
use Rattle.services.specs.Memory.{entry_width}
use Rattle.tables.specs.Rows.{Layout}
use Rattle.case_tables.specs.WrittenRows.{written}

-- The tables lent hold as many inner edges as the file has edges, its entries and its moves; and a word holds its order-1 states.
pub record RoomForOwn (file inner entries moves : List ℕ) : Type 0 where
  pub inner_room : count_of file 2 * 3 ≤ length inner
  pub entry_room : length (own_of file).entries * entry_width ≤ length entries
  pub move_room : count_of file 3 * 5 ≤ length moves
  pub states_few : (own_of file).J + length (own_of file).entries ≤ 64

-- ---- the automaton that the tables hold

-- a table that was written, with its number of rows
pub record HoldsOwn {A : Type 0} (L : Layout A) (l : List A) (t₀ t : List ℕ) (n : ℕ) : Type 0 where
  pub is : t ≡ written L t₀ 0 l
  pub count : n ≡ length l
  pub room : n * L.width ≤ length t₀
