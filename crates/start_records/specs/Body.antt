-- The cells of a start file's body.
-- Assumes nothing.
pub mod Laws
use Rattle.std.specs.Prelude.{ℕ, List, map}
use Rattle.walks.specs.Cell as walks
use Rattle.files.specs.Bytes.{records}
use Rattle.files.specs.Start.{cell_bytes}
use Rattle.files.specs.Start as files

-- the cell of a record
abbrev pub cell_read : List ℕ → walks.Cell
cell_read b = files.cell_of (cell_bytes b)

-- the first n cells
unfoldable pub cells_in : ℕ → List ℕ → List walks.Cell
cells_in n body = map cell_read (records n 6 body)
