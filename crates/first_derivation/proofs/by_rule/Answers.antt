-- `first_derivation::by_rule` meets its contract.
-- Assumes nothing.
use Rattle.first_derivation.specs.Premises.Rules.{rule_control, rule_symbol, rule_step}
use Rattle.first_derivation.specs.Premises.Loops.{finds_nothing}
use Rattle.first_derivation.proofs.by_rule.Goals as goal
use Rattle.first_derivation.proofs.by_rule.Goals.{then-rule-x-via-then-rule-x, then-rule-x-via-else-rule-x+then-rule-x-2}

pub returns-then-rule-x : goal.returns-then-rule-x
returns-then-rule-x c = elim c.then-rule-x.branch [
  | then-rule-x-via-then-rule-x w ↦ finds_nothing _ _ _ _ (rule_control _ _ _ w.if-rule-x.true)
  | then-rule-x-via-else-rule-x+then-rule-x-2 w ↦ finds_nothing _ _ _ _ (rule_symbol _ _ _ w.if-rule-x.false w.if-rule-x-2.true)
]

pub returns : goal.returns
returns c = rule_step _ _ _ c.if-rule-x.false c.if-rule-x-2.false c.first_step.ensures
