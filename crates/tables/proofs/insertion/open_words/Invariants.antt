-- `tables::insertion::open_words`: what its loops keep. The invariant: the words from number j on have been moved.
use Rattle.tables.specs.Insertion.Words.{OpenedTo}
use Rattle.tables.proofs.insertion.open_words.Given as goal

abbrev pub invariant-loop-j : goal.invariant-loop-j
invariant-loop-j l = OpenedTo l.initial.t l.t l.at l.end l.places l.j
