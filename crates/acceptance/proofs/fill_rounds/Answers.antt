-- `acceptance::fill_rounds` meets its contract.
-- Assumes nothing.
use native.Mathlib.Omega.{arith}
use Rattle.saturation.specs.Held.{saturated_on}
use Rattle.start_records.specs.Body.Laws.{length_cells_in, cells_in_at}
use Rattle.acceptance.specs.Cells.Laws.{states_below, filled_more, parts_below, next_zero}
use Rattle.acceptance.proofs.fill_rounds.Goals as goal

pub put_cell-requires : goal.put_cell-requires
put_cell-requires c =
    let a = c.args in
    let p = c.requires in
    let l = c.loop-i-test.true in
    let inv = c.loop-i.invariant in
    let len = inv.long in
    let room = p.5 in
    let at = cells_in_at a.n _ l c.cell_at-cell.ensures in
    (p.0, p.1, p.2, parts_below _ (states_below p.0) _ p.4 inv at, omega arith, next_zero _ (states_below p.0) _ p.4 inv p.6)

pub loop-i-preserved : goal.loop-i-preserved
loop-i-preserved c =
    let a = c.args in
    let p = c.requires in
    let l = c.loop-i-test.true in
    let n = length_cells_in a.n a.body.now in
    filled_more (saturated_on a.tables.now _ _) (states_below p.0) _ p.4 c.loop-i.invariant (omega arith) (cells_in_at a.n _ l c.cell_at-cell.ensures)
    c.annotation_order-k.ensures c.put_cell.ensures
