-- `guide::guide` meets its contract.
-- Assumes nothing.
use Rattle.guide.specs.Service.Demands.{meets}
use Rattle.guide.proofs.guide.Goals as goal

pub returns-clause-demand1 : goal.returns-clause-demand1
returns-clause-demand1 c = (meets _ _ c.guide_won-guided.ensures.trace_after).1.0

pub returns-clause-demand2 : goal.returns-clause-demand2
returns-clause-demand2 c = (meets _ _ c.guide_won-guided.ensures.trace_after).1.1.0

pub returns-clause-size : goal.returns-clause-size
returns-clause-size c = (meets _ _ c.guide_won-guided.ensures.trace_after).1.1.1.0

pub returns-clause-demand3 : goal.returns-clause-demand3
returns-clause-demand3 c = (meets _ _ c.guide_won-guided.ensures.trace_after).1.1.1.1
