-- `offers::is_held`: what its loops keep.
use Rattle.tables.specs.Records.{as_result}
use Rattle.move_index.specs.View.{table_in}
use Rattle.offers.specs.Holding.Laws.{NoneBelow}
use Rattle.offers.proofs.is_held.Given as goal

abbrev pub invariant-loop-k : goal.invariant-loop-k
invariant-loop-k l = NoneBelow (table_in l.by) (as_result l.x) l.k
