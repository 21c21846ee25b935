-- `round_news::new_symbols` meets its contract.
-- Assumes nothing.
use Rattle.round_news.specs.News.Laws.{symbols_more}
use Rattle.round_news.proofs.new_symbols.Goals as goal

pub loop-i-preserved : goal.loop-i-preserved
loop-i-preserved c =
    symbols_more _ _ _ _ _ _ c.loop-i.invariant c.move_at-m.ensures c.one_bit.ensures.set c.join-s.ensures
