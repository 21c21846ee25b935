-- `start_records::empty_right` meets its contract.
-- Assumes nothing.
use Rattle.std.proofs.Common.{rules}
use Rattle.start_records.specs.Cells.{empty_right}
use Rattle.start_records.proofs.empty_right.Goals as goal

pub returns-then-x-eq0-2 : goal.returns-then-x-eq0-2
unfolding empty_right
returns-then-x-eq0-2 c = search rules

pub returns-else-x-eq0-2 : goal.returns-else-x-eq0-2
unfolding empty_right
returns-else-x-eq0-2 c = search rules
