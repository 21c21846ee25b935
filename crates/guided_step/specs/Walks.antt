-- A walk and its top, as the code holds them.
-- Assumes nothing.
pub mod Laws
use Rattle.std.specs.Prelude.{ℕ, List, None, Some, Option as Found}
use Rattle.std.proofs.Math.Option.{Option, none, some}
use Rattle.walks.specs.Guide as walks
use Rattle.cell_memory.specs.Memory.{guided_in}
use Rattle.cell_steps.specs.declared.Top.{Top}
use Rattle.guided_step.specs.declared.Walk.{Walk}
use Rattle.guided_step.specs.declared.Tip.{Tip}

-- the walk of this state on lent cells
abbrev pub walk_in : Walk → List ℕ → walks.Walk
walk_in w cells = record { control = w.control; root = w.root; cells = guided_in w.cells cells }

abbrev pub top_by : Top → ℕ → walks.Top
top_by x i = record { a = x.symbol; u = x.annotation; s = x.rest; t = x.below; move = i }

abbrev pub tip_of : Found Tip → Option walks.Top
tip_of None = none
tip_of (Some p) = some (top_by p.top p.number)
