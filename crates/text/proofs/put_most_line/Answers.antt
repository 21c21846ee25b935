-- `text::put_most_line` meets its contract.
-- Assumes nothing.
use Rattle.services.specs.Listing.{ascii, most_line}
use Rattle.text.proofs.put_most_line.Goals as goal

pub returns-clause-written : goal.returns-clause-written
unfolding most_line ascii
returns-clause-written c = c.put_number_line.ensures.written
