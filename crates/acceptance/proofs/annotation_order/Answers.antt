-- `acceptance::annotation_order` meets its contract.
-- Assumes nothing.
use Rattle.cell_memory.specs.Memory.{cell_of}
use Rattle.acceptance.specs.Cells.{annotation_order_at}
use Rattle.acceptance.specs.Cells.Turns.{no_annotation}
use Rattle.acceptance.proofs.annotation_order.Goals as goal

pub returns-in-Symbol : goal.returns-in-Symbol
unfolding annotation_order_at cell_of
returns-in-Symbol c = rw c.in-Symbol.is c.order_at.ensures

pub returns-in_default : goal.returns-in_default
returns-in_default c = no_annotation _ _ c.in_default.not-Symbol
