-- `added_results::add_results`: what its loops keep.
use Rattle.tables.specs.Rows.{rows_in}
use Rattle.tables.specs.Layouts.{result_row}
use Rattle.tables.specs.Counts.{CountsStand}
use Rattle.added_results.specs.Adding.Laws.{AddedUpTo}
use Rattle.added_results.proofs.add_results.Given as goal

abbrev pub invariant-loop-i : goal.invariant-loop-i
invariant-loop-i l = AddedUpTo l.initial.table l.most l.initial.entries l.initial.moves (rows_in result_row l.n l.pending) l.i l.table l.entries l.moves × CountsStand l.table l.entries l.moves
