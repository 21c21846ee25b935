-- `guided_step::next_step` meets its contract.
-- Assumes nothing.
use Rattle.guided_step.specs.Step.Laws.{next_empty, next_to}
use Rattle.guided_step.proofs.next_step.Goals as goal

pub returns-in-None : goal.returns-in-None
returns-in-None c = next_empty _ c.args.run.now.tables.table _ _ _ _ _ c.args.w _ c.top_of.ensures c.in-None.is

pub returns-in-Some : goal.returns-in-Some
returns-in-Some c = next_to _ c.args.run.now.tables.table _ _ _ _ _ c.args.w _ c.top_of.ensures c.in-Some.is c.step_of.ensures
