-- `least_choices::put_start_cells`: what its loops keep.
use Rattle.tables.specs.View.{automaton_in}
use Rattle.start_records.specs.Body.{cells_in}
use Rattle.least_choices.specs.Starts.Turns.{StartTaken}
use Rattle.least_choices.proofs.put_start_cells.Given as goal

abbrev pub invariant-loop-i : goal.invariant-loop-i
invariant-loop-i l = StartTaken (automaton_in l.tables) (cells_in l.n l.body) l.initial.cells l.cells l.i
