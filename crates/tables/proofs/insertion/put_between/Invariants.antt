-- `tables::insertion::put_between`: what its loops keep. The invariant: the first i words are written.
use Rattle.words.specs.Copied.{Copied}
use Rattle.tables.proofs.insertion.put_between.Given as goal

abbrev pub invariant-loop-i : goal.invariant-loop-i
invariant-loop-i l = Copied l.initial.t l.at l.x l.i l.t
