-- `acceptance_words::accepted_by_all` meets its contract.
-- Assumes nothing.
use Rattle.acceptance_words.specs.Rows.Laws.{latest_none, latest_more, latest_all}
use Rattle.acceptance_words.proofs.accepted_by_all.Goals as goal

pub loop-left-init : goal.loop-left-init
loop-left-init c = latest_none _ _

pub loop-left-preserved : goal.loop-left-preserved
loop-left-preserved c =
    latest_more c.loop-left.invariant c.least_member-part.ensures.s_value (c.accepted.ensures.value, c.accepted.ensures.small) c.later-all.ensures

pub returns-clause-value : goal.returns-clause-value
returns-clause-value c = (latest_all c.loop-left.invariant c.loop-left-test.false).0
