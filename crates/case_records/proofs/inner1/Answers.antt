-- `case_records::inner1` meets its contract.
-- Assumes nothing.
use Rattle.files.specs.Case.{inner1}
use Rattle.case_records.proofs.inner1.Goals as goal

pub returns : goal.returns
unfolding inner1
returns c = c.all_below.ensures
