-- `replay_cells::put_cells` meets its contract.
-- Assumes nothing.
use mathlib.Core.Path.{refl}
use Rattle.cell_steps.specs.Steps.Laws.{cells_none, step_next, step_all}
use Rattle.replay_cells.specs.CellBytes.{put_bytes}
use Rattle.replay_cells.specs.CellBytes.Laws.{new_symbol}
use borrow.Author.Rules.{rules}
use Rattle.replay_cells.proofs.put_cells.Goals as goal

pub loop-i-init : goal.loop-i-init
loop-i-init c = (cells_none put_bytes _ _ _, refl)

pub put_cell-requires : goal.put_cell-requires
put_cell-requires c = (search rules, new_symbol _ _ _ _ _ _ _ (search rules) (search rules) c.new_cell.ensures)

pub loop-i-preserved : goal.loop-i-preserved
loop-i-preserved c =
    let v = c.new_cell in
    let inv = c.loop-i.invariant in
    (step_next put_bytes _ _ _ _ _ _ inv.0 (search rules) v.ensures c.put_cell.ensures, search rules)

pub returns : goal.returns
returns c = step_all put_bytes _ _ _ _ _ _ c.loop-i.invariant.0 (search rules)
