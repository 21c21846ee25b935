-- `move_index::extend`: what its loops keep.
use Rattle.move_index.specs.Keys.{ByState, ByWords}
use Rattle.move_index.proofs.extend.Given as goal

abbrev pub invariant-loop-i : goal.invariant-loop-i
invariant-loop-i l = ByState l.i l.moves l.states × ByWords l.i l.moves l.words
