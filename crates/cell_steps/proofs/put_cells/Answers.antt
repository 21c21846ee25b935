-- `cell_steps::put_cells` meets its contract.
-- Assumes nothing.
use mathlib.Core.Path.{refl, ap, sym, ◌∙◌}
use Rattle.cell_memory.specs.Memory.{with_cell}
use Rattle.cell_memory.specs.Memory.Laws.{value_of_cell_of}
use Rattle.cell_steps.specs.Steps.{put_cell}
use Rattle.cell_steps.specs.Steps.Laws.{cells_none, step_next, step_all}
use borrow.Author.Rules.{rules}
use Rattle.cell_steps.proofs.put_cells.Goals as goal

pub loop-i-init : goal.loop-i-init
loop-i-init c = (cells_none put_cell _ _ _, refl)

pub loop-i-preserved : goal.loop-i-preserved
loop-i-preserved c =
    let v = c.new_cell in
    let inv = c.loop-i.invariant in
    (step_next put_cell _ _ _ _ _ _ inv.0 (search rules) v.ensures (c.put_cell.ensures ∙ ap (with_cell _ _) (sym (value_of_cell_of v.result))), search rules)

pub returns : goal.returns
returns c = step_all put_cell _ _ _ _ _ _ c.loop-i.invariant.0 (search rules)
