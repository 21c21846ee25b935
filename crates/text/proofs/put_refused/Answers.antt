-- `text::put_refused` meets its contract.
-- Assumes nothing.
use Rattle.services.specs.Listing.{ascii, refused_text}
use Rattle.text.proofs.put_refused.Goals as goal

pub returns-clause-written : goal.returns-clause-written
unfolding refused_text ascii
returns-clause-written c = c.put_number_line.ensures.written
