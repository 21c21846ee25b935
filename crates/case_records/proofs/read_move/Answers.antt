-- `case_records::read_move` meets its contract.
-- Assumes nothing.
use Rattle.files.specs.Case.{move_of}
use Rattle.case_records.proofs.read_move.Goals as goal

pub returns : goal.returns
unfolding move_of
returns c = cc
