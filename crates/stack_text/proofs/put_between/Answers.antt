-- `stack_text::put_between` meets its contract.
-- Assumes nothing.
use mathlib.Core.Path.{sym}
use Rattle.services.specs.Listing.{ascii}
use Rattle.bounded_text.specs.Page.Laws.{prints_none, prints_same}
use Rattle.stack_text.specs.Cells.Laws.{between_none, between_is}
use Rattle.stack_text.proofs.put_between.Goals as goal

pub returns-in_default : goal.returns-in_default
returns-in_default c =
    prints_same (between_none c.requires.0 c.requires.1 _ c.cell_at-cell.ensures c.in_default.not-Symbol c.requires.2) prints_none

pub returns : goal.returns
unfolding ascii
returns c =
    let read = c.cell_at-cell in
    let bytes = c.put_bytes in
    prints_same (sym (between_is c.requires.0 c.requires.1 _ read.ensures c.in-Symbol.is)) bytes.ensures
