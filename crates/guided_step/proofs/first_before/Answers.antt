-- `guided_step::first_before` meets its contract.
-- Assumes nothing.
use Rattle.guided_step.specs.Step.Laws.{before_small, finds_before}
use Rattle.guided_step.proofs.first_before.Goals as goal

pub returns-clause-finds_before : goal.returns-clause-finds_before
returns-clause-finds_before c =
    finds_before c.args.run.now.tables.table _ _ _ _ _ _ c.table_before-before.ensures c.move_of-m.ensures c.result_of-x.ensures c.first_derivation.ensures.finds_first

pub returns-clause-small : goal.returns-clause-small
returns-clause-small c = before_small c.args.run.now.tables.table _ _ _ _ _ _ c.table_before-before.ensures c.first_derivation.ensures.small
