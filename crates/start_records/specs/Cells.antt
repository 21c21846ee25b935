-- The bounds of cells, kind by kind.
-- Assumes nothing.
pub mod Laws
use Rattle.std.specs.Prelude.{ℕ, Bool, ◌&&◌, List, eqb, ltb}
use Rattle.files.specs.Start.{CellBytes, refers_to}

-- of an empty stack
unfoldable pub empty_right : CellBytes → Bool
empty_right x = eqb x.symbol 0 && eqb x.first 0 && eqb x.second 0

-- of a symbol
unfoldable pub symbol_right : ℕ → List CellBytes → ℕ → CellBytes → Bool
symbol_right A cells n x = ltb x.symbol A && ltb x.first n && refers_to cells n 1 x.second

-- of an order-1 stack on an order-2 stack
unfoldable pub above_right : List CellBytes → ℕ → CellBytes → Bool
above_right cells n x = eqb x.kind 4 && eqb x.symbol 0 && refers_to cells n 1 x.first && refers_to cells n 2 x.second
