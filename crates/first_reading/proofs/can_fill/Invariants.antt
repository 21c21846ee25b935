-- `first_reading::can_fill`: what its loops keep.
use Rattle.tables.specs.Records.{as_result}
use Rattle.joins.specs.Joining.{the_joins}
use Rattle.first_reading.proofs.Cut.Turns.{ReachBelow}
use Rattle.first_reading.proofs.can_fill.Given as goal

abbrev pub invariant-loop-i : goal.invariant-loop-i
invariant-loop-i l = ReachBelow l.moves l.a (as_result l.x) l.left (the_joins l.order l.b l.r) l.n l.i l.z
