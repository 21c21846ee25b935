-- `text::put_halt` meets its contract.
-- Assumes nothing.
use mathlib.Core.Path.{ap, sym}
use Rattle.services.specs.Listing.{ascii, halt_text}
use Rattle.text.specs.Written.Laws.{written_then, written_same}
use Rattle.text.proofs.put_halt.Goals as goal

pub returns-in-Arrived-clause-written : goal.returns-in-Arrived-clause-written
unfolding halt_text
returns-in-Arrived-clause-written c = written_same (sym (ap (halt_text _) c.in-Arrived.is)) c.put_counts.ensures.written

pub returns-in-TraceFull-clause-written : goal.returns-in-TraceFull-clause-written
unfolding halt_text ascii
returns-in-TraceFull-clause-written c =
    written_same (sym (ap (halt_text _) c.in-TraceFull.is)) (written_then c.put_text-counts.ensures c.put_counts-in-TraceFull.ensures.written)

pub returns-in-CellsShort-clause-written : goal.returns-in-CellsShort-clause-written
unfolding halt_text ascii
returns-in-CellsShort-clause-written c =
    written_same (sym (ap (halt_text _) c.in-CellsShort.is)) (written_then c.put_text-counts-in-CellsShort.ensures c.put_counts-in-CellsShort.ensures.written)
