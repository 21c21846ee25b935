-- `guided_step::step_of` meets its contract.
-- Assumes nothing.
use Rattle.guided_step.specs.Step.Laws.{step_arrived, step_stuck, step_to}
use Rattle.guided_step.specs.Step.Chosen.{table_sized}
use Rattle.guided_step.proofs.step_of.Goals as goal

pub returns-then-tip-own_moves : goal.returns-then-tip-own_moves
returns-then-tip-own_moves c = step_arrived _ _ _ _ c.own_moves.ensures c.if-tip-own_moves.true

pub returns-in-None : goal.returns-in-None
returns-in-None c =
    step_stuck _ _ _ _ c.own_moves.ensures c.if-tip-own_moves.false c.in-None.is c.first_before.ensures.finds_before

pub returns-in-Some : goal.returns-in-Some
returns-in-Some c =
    step_to _ _ _ _ c.own_moves.ensures c.if-tip-own_moves.false (table_sized c.args.run.now.tables.table _ _ _ c.requires.tables_few c.args.run.now.tables.entries_stand) c.first_before.ensures.small c.requires.edges_value.0 c.requires.edges_value.1 c.in-Some.is c.first_before.ensures.finds_before
