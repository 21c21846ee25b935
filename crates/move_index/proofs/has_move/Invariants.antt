-- `move_index::has_move`: what its loops keep.
use Rattle.tables.specs.Records.{as_move}
use Rattle.chains.specs.Chains.{number_after}
use Rattle.move_index.specs.Search.{Missed}
use Rattle.move_index.proofs.has_move.Given as goal

abbrev pub invariant-loop-next : goal.invariant-loop-next
invariant-loop-next l = Missed l.moves l.fn.z.moves (as_move l.m) (number_after l.next)

abbrev pub decreases-loop-next : goal.decreases-loop-next
decreases-loop-next l = number_after l.next
