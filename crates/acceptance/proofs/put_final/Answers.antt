-- `acceptance::put_final` meets its contract.
-- Assumes nothing.
use Rattle.acceptance.specs.Put.Laws.{final_none, final_more, final_all}
use Rattle.acceptance.proofs.put_final.Goals as goal

pub loop-q-init : goal.loop-q-init
loop-q-init c = final_none _ c.requires.1

pub loop-q-preserved : goal.loop-q-preserved
loop-q-preserved c =
    final_more _ _ c.requires.0 c.loop-q-test.true c.loop-q.invariant c.final_accepted.ensures.value c.put_earlier.ensures

pub returns : goal.returns
returns c = final_all _ _ c.loop-q-test.false c.loop-q.invariant
