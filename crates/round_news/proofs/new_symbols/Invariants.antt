-- `round_news::new_symbols`: what its loops keep.
use Rattle.round_news.specs.News.{HasSymbols}
use Rattle.round_news.proofs.new_symbols.Given as goal

abbrev pub invariant-loop-i : goal.invariant-loop-i
invariant-loop-i l = HasSymbols l.moves l.from l.i l.s
