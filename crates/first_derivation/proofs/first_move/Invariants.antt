-- `first_derivation::first_move`: what its loops keep.
use Rattle.tables.specs.Records.{as_result}
use Rattle.tables.specs.View.{automaton_in}
use Rattle.case_records.specs.Values.{the_operation}
use Rattle.first_reading.specs.Answer.{NotFoundBelow, Unchanged}
use Rattle.first_derivation.specs.Premises.{move_gives}
use Rattle.first_derivation.proofs.first_move.Given as goal

abbrev pub invariant-loop-i : goal.invariant-loop-i
invariant-loop-i l = NotFoundBelow l.tables.table.moves (move_gives (automaton_in l.tables) l.a (as_result l.x) (the_operation l.op) l.p l.b) l.i × Unchanged l.initial.edges l.edges × Unchanged l.initial.chosen l.chosen
