-- `start_records::cell_order` meets its contract.
-- Assumes nothing.
use Rattle.std.proofs.Common.{rules}
use Rattle.walks.specs.Cell.Formed.{cell_order}
use Rattle.cell_memory.specs.Memory.{cell_of}
use Rattle.start_records.proofs.cell_order.Goals as goal

pub returns-in-Empty1 : goal.returns-in-Empty1
unfolding cell_order cell_of
returns-in-Empty1 c = search rules

pub returns-in-Empty2 : goal.returns-in-Empty2
unfolding cell_order cell_of
returns-in-Empty2 c = search rules
