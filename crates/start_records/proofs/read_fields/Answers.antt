-- `start_records::read_fields` meets its contract.
-- Assumes nothing.
use Rattle.files.specs.Start.{cell_bytes}
use Rattle.start_records.proofs.read_fields.Goals as goal

pub returns-clause-result_value : goal.returns-clause-result_value
unfolding cell_bytes
returns-clause-result_value c = cc
