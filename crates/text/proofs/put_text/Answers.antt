-- `text::put_text` meets its contract.
-- Assumes nothing.
use Rattle.text.specs.Written.Laws.{written_part}
use Rattle.text.proofs.put_text.Goals as goal

pub returns : goal.returns
returns c = written_part _ _ c.requires c.copy_from_slice.ensures.after
