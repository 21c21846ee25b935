-- `start_records::read_start` meets its contract.
-- Assumes nothing.
use Rattle.files.specs.Start.{start_of}
use Rattle.start_records.proofs.read_start.Goals as goal

pub returns : goal.returns
unfolding start_of
returns c = cc
