-- `case_records::head_right` meets its contract.
-- Assumes nothing.
use Rattle.std.proofs.Common.{rules}
use Rattle.files.specs.Case.{head_right}
use Rattle.case_records.proofs.head_right.Goals as goal

pub returns-then-existing2 : goal.returns-then-existing2
unfolding head_right
returns-then-existing2 c = search rules

pub returns-else-existing2 : goal.returns-else-existing2
unfolding head_right
returns-else-existing2 c = search rules
