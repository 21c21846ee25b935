-- A move of a case, counted with its entry.
-- Assumes nothing.
pub mod Laws
use Rattle.std.specs.Prelude.{ℕ, ◌-◌, true, false, ◌&&◌, List, leb, ltb}
use Rattle.tables.specs.Counts.{raised}

-- the entry table with a move of order-1 state r more, where the first n rows are the states from J on; an inner state has no row
unfoldable pub move_counted : ℕ → ℕ → ℕ → List ℕ → List ℕ
move_counted J n r t = elim (leb J r && ltb (r - J) n) [ true ↦ raised t (r - J) | false ↦ t ]
