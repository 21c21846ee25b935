-- `start_records::order_of` meets its contract.
-- Assumes nothing.
use Rattle.std.proofs.Common.{rules}
use Rattle.files.specs.Start.{order_of}
use Rattle.start_records.proofs.order_of.Goals as goal

pub returns-then-kind-le-SYMBOL_CELL : goal.returns-then-kind-le-SYMBOL_CELL
unfolding order_of
returns-then-kind-le-SYMBOL_CELL c = search rules

pub returns-else-kind-le-SYMBOL_CELL : goal.returns-else-kind-le-SYMBOL_CELL
unfolding order_of
returns-else-kind-le-SYMBOL_CELL c = search rules
