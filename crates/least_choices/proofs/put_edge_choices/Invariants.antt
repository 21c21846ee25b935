-- `least_choices::put_edge_choices`: what its loops keep.
use Rattle.automata.specs.Automaton.{no_edge}
use Rattle.tables.specs.Held.{edges_in}
use Rattle.acceptance_words.specs.Rows.{round_in}
use Rattle.least_choices.specs.Starts.{edge_met}
use Rattle.least_choices.specs.Choices.Laws.{Looked}
use Rattle.least_choices.proofs.put_edge_choices.Given as goal

abbrev pub invariant-loop-number : goal.invariant-loop-number
invariant-loop-number l = Looked (λ e. e.state) (edge_met (round_in l.rounds l.w) (round_in l.rounds l.t)) l.i no_edge (edges_in l.tables.table l.tables.inner.now l.tables.entries.now) l.initial.cells l.cells l.number
