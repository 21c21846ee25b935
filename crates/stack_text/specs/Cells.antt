-- Cells of a start file in bytes, and the stacks that they stand for.
-- Assumes nothing.
pub mod Laws
use Rattle.std.specs.Prelude.{ℕ, ◌*◌, ◌≤◌, List, length}
use Rattle.stacks.specs.Stack.{Annotation}
use Rattle.walks.specs.Cell.{stack_at, stacks}
use Rattle.walks.specs.Cell.Formed.{Formed}
use Rattle.start_records.specs.Body.{cells_in}

-- the bytes hold so many cells, which refer to lower ones of the right order
pub record CellsStand (count : ℕ) (cells : List ℕ) : Type 0 where
  pub room : count * 6 ≤ length cells
  pub formed : Formed (cells_in count cells)

-- the stack of cell n
unfoldable pub stack_in : ℕ → List ℕ → ℕ → Annotation
stack_in count cells n = stack_at (stacks (cells_in count cells)) n
