-- `tables::insertion::words_before`: what its loops keep. The invariant: the first i words are the same.
use Rattle.tables.specs.Insertion.Words.{SameUpTo}
use Rattle.tables.proofs.insertion.words_before.Given as goal

abbrev pub invariant-loop-i : goal.invariant-loop-i
invariant-loop-i l = SameUpTo l.x l.y l.i
