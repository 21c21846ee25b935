-- `listing::read_listing` meets its contract.
-- Assumes nothing.
use borrow.Author.Rules.{rules}
use Rattle.services.specs.Listing.{listing_text}
use Rattle.printing.specs.Texts.Laws.{text_read}
use Rattle.listing.proofs.read_listing.Goals as goal

pub returns-clause-text_read : goal.returns-clause-text_read
returns-clause-text_read g c =
    let e = c.text_of_files.ensures in
    (text_read listing_text 4306 (record { case = e.0.now; start = e.1.now }) (search rules) (search rules) (search rules)).0
