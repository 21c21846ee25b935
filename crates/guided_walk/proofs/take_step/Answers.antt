-- `guided_walk::take_step` meets its contract.
-- Assumes nothing.
use native.Mathlib.Omega.{arith}
use Rattle.case_records.specs.Values.{the_operation}
use Rattle.cell_steps.specs.Steps.Laws.{root_small}
use Rattle.guided_walk.specs.Stepped.Laws.{steps_are}
use borrow.Author.Rules.{rules}
use Rattle.guided_walk.proofs.take_step.Goals as goal

pub overflow_cast-result : goal.overflow_cast-result
overflow_cast-result c =
    omega (arith, root_small (the_operation c.args.op) c.args.w.cells _ _ (search rules) c.requires.step_stands.0.annotation_small c.requires.step_stands.0.below_small, c.root_after.ensures)

pub returns : goal.returns
returns c =
    steps_are _ _ c.args.w c.by_operation-choice.ensures c.put_step.ensures c.root_after.ensures c.new_cells.ensures
