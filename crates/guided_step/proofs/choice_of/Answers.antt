-- `guided_step::choice_of` meets its contract.
-- Assumes nothing.
use Rattle.guided_step.specs.Walks.Laws.{choice_there, choice_past}
use Rattle.guided_step.proofs.choice_of.Goals as goal

pub returns-then-at-n : goal.returns-then-at-n
returns-then-at-n c = choice_there _ _ _ _ c.if-at-n.true c.choice_at.ensures

pub returns : goal.returns
returns c = choice_past _ _ _ _ c.if-at-n.false
