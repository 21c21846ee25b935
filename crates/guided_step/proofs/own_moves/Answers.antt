-- `guided_step::own_moves` meets its contract.
-- Assumes nothing.
use Rattle.guided_step.specs.Earlier.Laws.{own_some, own_none}
use Rattle.guided_step.proofs.own_moves.Goals as goal

pub returns-then-run-gt0 : goal.returns-then-run-gt0
returns-then-run-gt0 c = own_some _ _ c.if-run-gt0.true c.size_at.ensures

pub returns : goal.returns
returns c = own_none _ _ c.if-run-gt0.false
