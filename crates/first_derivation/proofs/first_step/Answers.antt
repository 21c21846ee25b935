-- `first_derivation::first_step` meets its contract.
-- Assumes nothing.
use mathlib.Core.Path.{ap}
use Rattle.case_records.specs.Values.{the_operation}
use Rattle.first_derivation.specs.Premises.Rules.{step_reads, step_copy, step_pop1, step_pop2, step_collapse1, step_collapse2}
use Rattle.first_derivation.proofs.first_step.Goals as goal

pub returns-in-Rewrite : goal.returns-in-Rewrite
returns-in-Rewrite c = step_reads _ _ _ _ _ _ _ c.in-Rewrite.op-is c.in-Rewrite.is c.first_move-in-Rewrite.ensures

pub returns-in-Copy : goal.returns-in-Copy
returns-in-Copy c = step_copy _ _ _ _ _ _ _ (ap the_operation c.in-Copy.is) c.first_move.ensures

pub returns-in-Pop1 : goal.returns-in-Pop1
returns-in-Pop1 c = step_pop1 _ _ _ _ _ _ _ _ _ (ap the_operation c.in-Pop1.is) c.first_entry.ensures

pub returns-in-Pop2 : goal.returns-in-Pop2
returns-in-Pop2 c = step_pop2 _ _ _ _ _ _ _ _ _ (ap the_operation c.in-Pop2.is) c.by_pop2.ensures

pub returns-in-Collapse1 : goal.returns-in-Collapse1
returns-in-Collapse1 c =
    step_collapse1 _ _ _ _ _ _ _ _ _ (ap the_operation c.in-Collapse1.is) c.first_entry-in-Collapse1.ensures

pub returns-in-Collapse2 : goal.returns-in-Collapse2
returns-in-Collapse2 c = step_collapse2 _ _ _ _ _ _ _ _ _ (ap the_operation c.in-Collapse2.is) c.by_collapse2.ensures
