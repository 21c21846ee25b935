-- `bytes_in::record` meets its contract.
-- Assumes nothing.
use Rattle.bytes_in.specs.Records.Laws.{part_is}
use Rattle.bytes_in.proofs.record.Goals as goal

pub returns-clause-value : goal.returns-clause-value
returns-clause-value c = part_is _ _ _
