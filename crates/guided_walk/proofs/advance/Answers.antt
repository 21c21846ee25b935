-- `guided_walk::advance` meets its contract.
-- Assumes nothing.
use mathlib.Core.Path.{refl}
use native.Mathlib.Omega.{arith}
use Rattle.guided_step.specs.Step.Laws.{rule_numbered}
use Rattle.guided_walk.specs.Turns.Laws.{next_arrived, next_stuck, next_taken, turn_arrived, turn_stuck, turn_by}
use Rattle.guided_walk.specs.Laws.Rules.{rule_read, step_stands}
use Rattle.guided_walk.proofs.advance.Goals as goal

pub rule_at-rule-requires : goal.rule_at-rule-requires
rule_at-rule-requires c =
    let t = next_taken c.next_step.ensures c.in-To.is in
    omega (arith, (rule_numbered _ _ _ t.numbered).0, c.requires.0.rules_stand.rules_lent)

pub go_on-requires-clause-step_stands : goal.go_on-requires-clause-step_stands
go_on-requires-clause-step_stands c =
    let pre = c.requires.0 in
    let t = next_taken c.next_step.ensures c.in-To.is in (
      step_stands _ _ _ _ _ _ _ _ pre.rules_stand c.bytes_fit.ensures.fits t c.rule_at-rule.ensures (omega arith) (omega arith),
      pre.tables_few.edges_few,
      omega (arith, (rule_numbered _ _ _ t.numbered).0, pre.rules_few),
      pre.cells_lent_holds,
      pre.cells_few,
      c.requires.1,
    )

pub returns-in-Arrived : goal.returns-in-Arrived
returns-in-Arrived c =
    (turn_arrived _ _ _ _ _ _ c.requires.1 (next_arrived c.next_step.ensures c.in-Arrived.is) c.counts.ensures, refl)

pub returns-in-Stuck : goal.returns-in-Stuck
returns-in-Stuck c = turn_stuck _ _ _ _ _ _ c.requires.1 (next_stuck c.next_step.ensures c.in-Stuck.is)

pub returns-in-To : goal.returns-in-To
returns-in-To c =
    let t = next_taken c.next_step.ensures c.in-To.is in
    turn_by _ _ _ _ _ _ c.requires.1 _ _ _ _ refl t _ c.go_on.result _ _ (rule_read _ _ _ t.numbered c.rule_at-rule.ensures) c.go_on.ensures
