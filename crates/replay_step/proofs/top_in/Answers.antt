-- `replay_step::top_in` meets its contract.
-- Assumes nothing.
use Rattle.replay_step.specs.Top.Laws.{root_is, no_root}
use Rattle.replay_step.proofs.top_in.Goals as goal

pub returns-in_default : goal.returns-in_default
returns-in_default c = no_root _ _ c.cell_of.ensures c.in_default.not-Above

pub returns : goal.returns
returns c = root_is _ _ c.cell_of.ensures c.in-Above.is c.top_on.ensures
