-- `offers::is_held` meets its contract.
-- Assumes nothing.
use native.Mathlib.Omega.{arith}
use Rattle.tables.specs.Rows.Laws.{length_rows_in}
use Rattle.tables.specs.Layouts.{entry_row}
use Rattle.move_index.specs.View.{table_in}
use Rattle.offers.specs.Holding.Laws.{held_found, held_all}
use Rattle.offers.proofs.is_held.Goals as goal

pub returns-then-held_by : goal.returns-then-held_by
returns-then-held_by c =
    let by = c.args.by.now in
    held_found (table_in by) _ _ _ (omega (arith, c.loop-k-test.true, length_rows_in entry_row by.table.entries by.entries.now)) c.held_by.ensures c.if-held_by.true

pub returns : goal.returns
returns c =
    let by = c.args.by.now in
    held_all (table_in by) _ _ c.loop-k.invariant (omega (arith, c.loop-k-test.false, length_rows_in entry_row by.table.entries by.entries.now))
