-- `start_records::order_at` meets its contract.
-- Assumes nothing.
use Rattle.start_records.specs.Body.Laws.{order_none, order_there}
use Rattle.start_records.proofs.order_at.Goals as goal

pub returns-then-i-n : goal.returns-then-i-n
returns-then-i-n c = order_there _ _ c.if-i-n.true c.cell_at.ensures c.cell_order.ensures

pub returns-else-i-n : goal.returns-else-i-n
returns-else-i-n c = order_none _ _ c.if-i-n.false
