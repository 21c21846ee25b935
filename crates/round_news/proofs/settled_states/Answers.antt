-- `round_news::settled_states` meets its contract.
-- Assumes nothing.
use Rattle.round_news.specs.News.Laws.{none_more}
use Rattle.round_news.proofs.settled_states.Goals as goal

pub loop-n-preserved : goal.loop-n-preserved
loop-n-preserved c = none_more _ _ _ _ _ _ c.loop-n.invariant c.move_at.ensures c.unsettle-s.ensures
