-- `acceptance::put_final`: what its loops keep.
use Rattle.acceptance.specs.Put.{RowPut}
use Rattle.acceptance.specs.Put.Laws.{final_below}
use Rattle.acceptance.proofs.put_final.Given as goal

abbrev pub invariant-loop-q : goal.invariant-loop-q
invariant-loop-q l = RowPut l.initial.rounds l.i (final_below l.set l.q) l.rounds
