-- `replay_step::take_step` meets its contract.
-- Assumes nothing.
use native.Mathlib.Omega.{arith}
use Rattle.case_records.specs.Values.{the_operation}
use Rattle.cell_steps.specs.Steps.Laws.{root_small}
use Rattle.replay_step.specs.Place.Laws.{moved_by}
use borrow.Author.Rules.{rules}
use Rattle.replay_step.proofs.take_step.Goals as goal

pub overflow_cast-result : goal.overflow_cast-result
overflow_cast-result c =
    let a = c.args in
    omega (arith, root_small (the_operation a.op) a.w.cells a.x.annotation a.x.below (search rules) (search rules) (search rules), c.root_after.ensures)

pub returns : goal.returns
returns c = moved_by _ _ _ c.args.w (search rules) c.put_cells.ensures c.root_after.ensures c.new_cells.ensures
