-- A configuration whose stack stands in cells of six bytes.
-- Assumes nothing.
pub mod Laws
use Rattle.std.specs.Prelude.{ℕ, ◌*◌, ◌<◌, ◌≤◌, ◌≡◌, List, length}
use Rattle.stacks.specs.System.{Configuration}
use Rattle.walks.specs.Cell.{order2, stack_at, stacks}
use Rattle.walks.specs.Cell.Formed.{Formed, order_at}
use Rattle.start_records.specs.Body.{cells_in}

-- this control with the stack of cell `root`, of the first n
abbrev pub configuration_in : ℕ → List ℕ → ℕ → ℕ → Configuration
configuration_in n cells control root = record { control = control; stack = order2 (stack_at (stacks (cells_in n cells)) root) }

-- The first n cells, at most 4,096, are in the bytes and refer to lower ones of the right order, cell `root` is one of them, of order 2, and the
-- control is below 64.
pub record RootStands (n : ℕ) (cells : List ℕ) (control root : ℕ) : Type 0 where
  pub cells_there : n * 6 ≤ length cells
  pub cells_few : n ≤ 4096
  pub formed : Formed (cells_in n cells)
  pub root_exists : root < n
  pub root_order : order_at (cells_in n cells) root ≡ 2
  pub control_small : control < 64
