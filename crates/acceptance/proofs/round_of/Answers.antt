-- `acceptance::round_of` meets its contract.
-- Assumes nothing.
use Rattle.acceptance.specs.Put.Laws.{round_stops, round_more, round_all}
use Rattle.acceptance.proofs.round_of.Goals as goal

pub returns-then-i-size_at : goal.returns-then-i-size_at
returns-then-i-size_at c = round_stops _ _ _ _ c.loop-r.invariant c.loop-r-test.true c.size_at.ensures c.if-i-size_at.true

pub loop-r-preserved : goal.loop-r-preserved
loop-r-preserved c = round_more _ _ _ _ c.loop-r.invariant c.loop-r-test.true c.size_at.ensures c.if-i-size_at.false

pub returns : goal.returns
returns c = round_all _ _ _ _ c.loop-r.invariant c.loop-r-test.false
