-- Why a walk halts, and the cells that its steps take.
-- Assumes nothing.
use Rattle.std.specs.Prelude.{ℕ, ◌+◌, Bool, true, false, List, [], ◌∷◌}
use Rattle.std.proofs.Math.Option.{none, some}
use Rattle.std.proofs.Math.ListN.{get_elem?}
use Rattle.stacks.specs.Stack.{new_cells}
use Rattle.stacks.specs.System.{Rule}
use Rattle.replies.specs.declared.Counts.{Counts}
use Rattle.replies.specs.declared.Halt.{Halt}
use Rattle.replies.specs.declared.Halt.TheVariants.{Arrived, TraceFull, CellsShort}
use Rattle.replies.specs.declared.Reply.{Reply}
use Rattle.replies.specs.declared.Reply.TheVariants.{Refused, NoRun, Open, Walked}

-- why a walk halts, in the order in which it is tested
pub data Reason : Type 0 where
  arrival trace_full cells_short : Reason

unfoldable pub halt_by : Reason → Counts → Halt
halt_by arrival z = Arrived z
halt_by trace_full z = TraceFull z
halt_by cells_short z = CellsShort z

-- the reply is an arrival
unfoldable pub is_arrival : Reply → Bool
is_arrival (Refused n) = false
is_arrival NoRun = false
is_arrival Open = false
is_arrival (Walked (Arrived z)) = true
is_arrival (Walked (TraceFull z)) = false
is_arrival (Walked (CellsShort z)) = false

-- the new cells of the steps by these rules
unfoldable pub cells_of_steps : List Rule → List ℕ → ℕ
cells_of_steps rules [] = 0
cells_of_steps rules (n ∷ ns) = elim (get_elem? rules n) [ none ↦ 0 | some ρ ↦ new_cells ρ.operation ] + cells_of_steps rules ns
