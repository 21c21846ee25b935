-- `bounded_text::put_number` meets its contract.
-- Assumes nothing.
use Rattle.bounded_text.specs.Page.Laws.{digits_taken, prints_same}
use Rattle.bounded_text.proofs.put_number.Goals as goal

pub returns : goal.returns
returns c =
    prints_same (digits_taken c.put_decimal-count.ensures.written c.put_decimal-count.ensures.within) c.put_bytes.ensures
