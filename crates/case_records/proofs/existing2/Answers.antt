-- `case_records::existing2` meets its contract.
-- Assumes nothing.
use Rattle.files.specs.Case.{existing2}
use Rattle.case_records.proofs.existing2.Goals as goal

pub returns : goal.returns
unfolding existing2
returns c = c.all_below.ensures
