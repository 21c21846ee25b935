-- `least_choices::put_move_choices`: what its loops keep.
use Rattle.automata.specs.Automaton.{no_move}
use Rattle.tables.specs.Rows.{rows_in}
use Rattle.tables.specs.Layouts.{move_row}
use Rattle.acceptance_words.specs.Rows.{round_in}
use Rattle.least_choices.specs.Starts.{move_met}
use Rattle.least_choices.specs.Choices.Laws.{Looked}
use Rattle.least_choices.proofs.put_move_choices.Given as goal

abbrev pub invariant-loop-number : goal.invariant-loop-number
invariant-loop-number l = Looked (λ m. m.state) (move_met l.a l.k (round_in l.rounds l.u) (round_in l.rounds l.s)) l.i no_move (rows_in move_row l.tables.table.moves l.tables.moves.now) l.initial.cells l.cells l.number
