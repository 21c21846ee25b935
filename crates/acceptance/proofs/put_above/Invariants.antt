-- `acceptance::put_above`: what its loops keep.
use Rattle.tables.specs.Held.{edges_in}
use Rattle.acceptance_words.specs.Rows.{round_in}
use Rattle.acceptance.specs.Put.Turns.{AboveTaken}
use Rattle.acceptance.proofs.put_above.Given as goal

abbrev pub invariant-loop-n : goal.invariant-loop-n
invariant-loop-n l = AboveTaken (round_in l.initial.rounds l.w) (round_in l.initial.rounds l.t) (edges_in l.tables.table l.tables.inner.now l.tables.entries.now) l.initial.rounds l.i l.rounds l.n
