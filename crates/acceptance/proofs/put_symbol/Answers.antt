-- `acceptance::put_symbol` meets its contract.
-- Assumes nothing.
use native.Mathlib.Omega.{arith}
use Rattle.tables.specs.Rows.Laws.{length_rows_in}
use Rattle.tables.specs.Layouts.{move_row}
use Rattle.acceptance.specs.Put.Laws.{round_few}
use Rattle.acceptance.specs.Put.Turns.{symbol_none, symbol_more, symbol_all}
use Rattle.acceptance.specs.Named.Laws.{move_small, move_row_lem}
use Rattle.acceptance.proofs.put_symbol.Goals as goal

pub loop-n-init : goal.loop-n-init
loop-n-init c = symbol_none _ _ _ _ _ _ c.requires.6

pub put_move-requires : goal.put_move-requires
put_move-requires c =
    let p = c.requires in
    let room = p.5 in (
      p.3,
      p.4,
      omega arith,
      move_small p.0 c.loop-n-test.true c.move_at.ensures,
      round_few _ _ _ c.round_of-round.ensures p.2,
    )

pub loop-n-preserved : goal.loop-n-preserved
loop-n-preserved c =
    let a = c.args in
    let p = c.requires in
    let l = c.loop-n-test.true in
    let n = length_rows_in move_row a.tables.now.table.moves a.tables.now.moves.now in
    symbol_more _ _ c.loop-n.invariant p.5 p.3 p.4 (omega arith) (move_row_lem a.tables.now.table _ l c.move_at.ensures)
    (move_small p.0 l c.move_at.ensures) c.round_of-round.ensures c.put_move.ensures

pub returns : goal.returns
returns c =
    let a = c.args in
    let n = length_rows_in move_row a.tables.now.table.moves a.tables.now.moves.now in
    symbol_all _ _ _ _ _ _ c.loop-n.invariant (omega arith)
