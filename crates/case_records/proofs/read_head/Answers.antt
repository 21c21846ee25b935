-- `case_records::read_head` meets its contract.
-- Assumes nothing.
use Rattle.files.specs.Case.{head_of}
use Rattle.case_records.proofs.read_head.Goals as goal

pub returns : goal.returns
unfolding head_of
returns c = cc
