-- `replay_step::top_on` meets its contract.
-- Assumes nothing.
use Rattle.replay_step.specs.Top.Laws.{top_is, no_top_on}
use Rattle.replay_step.proofs.top_on.Goals as goal

pub returns-in_default : goal.returns-in_default
returns-in_default c = no_top_on _ c.cell_of.ensures c.in_default.not-Symbol

pub returns : goal.returns
returns c = top_is _ c.cell_of.ensures c.in-Symbol.is
