-- `case_records::read_edge` meets its contract.
-- Assumes nothing.
use Rattle.files.specs.Case.{edge_bytes}
use Rattle.case_records.proofs.read_edge.Goals as goal

pub returns : goal.returns
unfolding edge_bytes
returns c = cc
