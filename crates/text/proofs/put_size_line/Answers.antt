-- `text::put_size_line` meets its contract.
-- Assumes nothing.
use Rattle.services.specs.Listing.{ascii, size_line}
use Rattle.text.specs.Written.Laws.{written_then}
use Rattle.text.proofs.put_size_line.Goals as goal

pub returns-clause-written : goal.returns-clause-written
unfolding size_line ascii
returns-clause-written c =
    written_then
    (written_then (written_then (written_then c.put_text-moves.ensures c.put_decimal-after_moves.ensures.written) c.put_text-entries.ensures) c.put_decimal-after_entries.ensures.written)
    c.put_text.ensures
