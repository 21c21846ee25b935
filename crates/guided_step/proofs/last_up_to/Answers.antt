-- `guided_step::last_up_to` meets its contract.
-- Assumes nothing.
use Rattle.guided_step.specs.Earlier.Laws.{last_more, last_hit, last_all}
use Rattle.guided_step.proofs.last_up_to.Goals as goal

pub returns-then-i-y : goal.returns-then-i-y
returns-then-i-y c = last_hit _ _ _ c.loop-j.invariant c.loop-j-test.true c.size_at-y.ensures c.if-i-y.true

pub loop-j-preserved : goal.loop-j-preserved
loop-j-preserved c = last_more _ _ _ c.loop-j.invariant c.loop-j-test.true c.size_at-y.ensures c.if-i-y.false

pub returns : goal.returns
returns c = last_all _ _ _ c.loop-j.invariant c.loop-j-test.false
