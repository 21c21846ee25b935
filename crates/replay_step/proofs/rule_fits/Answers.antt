-- `replay_step::rule_fits` meets its contract.
-- Assumes nothing.
use borrow.Author.Rules.{rules}
use Rattle.replay_step.specs.Top.{rule_fits}
use Rattle.replay_step.proofs.rule_fits.Goals as goal

pub returns-then-symbol-rule : goal.returns-then-symbol-rule
unfolding rule_fits
returns-then-symbol-rule c = search rules

pub returns-else-symbol-rule : goal.returns-else-symbol-rule
unfolding rule_fits
returns-else-symbol-rule c = search rules
