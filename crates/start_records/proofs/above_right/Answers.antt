-- `start_records::above_right` meets its contract.
-- Assumes nothing.
use Rattle.std.proofs.Common.{rules}
use Rattle.start_records.specs.Cells.{above_right}
use Rattle.start_records.proofs.above_right.Goals as goal

pub returns-then-refers_to : goal.returns-then-refers_to
unfolding above_right
returns-then-refers_to c = search rules

pub returns-else-refers_to : goal.returns-else-refers_to
unfolding above_right
returns-else-refers_to c = search rules
