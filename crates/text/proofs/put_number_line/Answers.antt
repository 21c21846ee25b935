-- `text::put_number_line` meets its contract.
-- Assumes nothing.
use Rattle.services.specs.Listing.{ascii}
use Rattle.text.specs.Written.Laws.{written_then}
use Rattle.text.proofs.put_number_line.Goals as goal

pub returns-clause-written : goal.returns-clause-written
unfolding ascii
returns-clause-written c =
    written_then (written_then c.put_text-number.ensures c.put_decimal-after_number.ensures.written) c.put_text.ensures
