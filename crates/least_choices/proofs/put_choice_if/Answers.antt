-- `least_choices::put_choice_if` meets its contract.
-- Assumes nothing.
use Rattle.least_choices.specs.Choices.{choice_if}
use Rattle.least_choices.proofs.put_choice_if.Goals as goal

pub returns-then-met : goal.returns-then-met
unfolding choice_if
returns-then-met c = rw c.if-met.true c.put_choice.ensures

pub returns-else-met : goal.returns-else-met
unfolding choice_if
returns-else-met c = rw c.if-met.false
