-- `bytes_in::body_part` meets its contract.
-- Assumes nothing.
use Rattle.bytes_in.specs.Records.Laws.{body_is}
use Rattle.bytes_in.proofs.body_part.Goals as goal

pub returns : goal.returns
returns c = body_is _ _ _ _ _ c.offset_of-a.ensures.value c.count_of.ensures.value
