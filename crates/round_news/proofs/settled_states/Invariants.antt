-- `round_news::settled_states`: what its loops keep.
use Rattle.round_news.specs.News.{NoneHas}
use Rattle.round_news.proofs.settled_states.Given as goal

abbrev pub invariant-loop-n : goal.invariant-loop-n
invariant-loop-n l = NoneHas l.moves l.from l.n l.a l.s
