-- The definitions of this layer and of those below it, opened together: a theorem that is to hold by computation says
-- `unfolding computed`.
-- Assumes nothing.
use Rattle.std.specs.Prelude.{ℕ}
use Rattle.words.specs.Lists
use Rattle.words.specs.Order
use Rattle.words.specs.Sets
use Rattle.stacks.specs.Stack
use Rattle.stacks.specs.System
use Rattle.automata.specs.Acceptance
use Rattle.automata.specs.Automaton
use Rattle.automata.specs.Derivation
use Rattle.automata.specs.Saturation
use Rattle.automata.specs.Won

unfoldable pub open_lists : ℕ
unfolding Lists.each Lists.when Lists.only Lists.every Lists.some_of Lists.first Lists.places_from Lists.places Lists.choices
open_lists = 0

unfoldable pub open_order : ℕ
unfolding Order.less Order.same Order.insert Order.sorted Order.rising_from Order.rising
open_order = 0

unfoldable pub open_sets : ℕ
unfolding Sets.member Sets.single Sets.join_bits Sets.join Sets.set_of Sets.part_of Sets.members_from Sets.members
open_sets = 0

unfoldable pub open_stack : ℕ
unfolding Stack.after Stack.new_cells
open_stack = 0

unfoldable pub open_system : ℕ
unfolding System.entered System.step_on System.step
open_system = 0

unfoldable pub open_acceptance : ℕ
unfolding Acceptance.move_fits Acceptance.edge_fits Acceptance.in_target Acceptance.accepts1 Acceptance.accepts2 Acceptance.accepts_annotation
open_acceptance = 0

unfoldable pub open_automaton : ℕ
unfolding Automaton.choice_key Automaton.entry_key Automaton.entry_edges Automaton.edges Automaton.edge_at Automaton.move_at Automaton.edges_of Automaton.moves_of Automaton.entry_at Automaton.entry_of Automaton.entry_control Automaton.entry_set Automaton.entry_edge
open_automaton = 0

unfoldable pub open_derivation : ℕ
unfolding Derivation.result_key Derivation.clash Derivation.join_move Derivation.join_moves Derivation.readings Derivation.edge_choices Derivation.named Derivation.edge_sets Derivation.join_all Derivation.control_moves Derivation.control_entries Derivation.conclude Derivation.by_rewrite Derivation.by_push1 Derivation.by_push2 Derivation.by_copy Derivation.by_pop1 Derivation.by_pop2 Derivation.by_collapse1 Derivation.by_collapse2 Derivation.derivations_by Derivation.derivations_from Derivation.derivations Derivation.result_of Derivation.first_derivation
open_derivation = 0

unfoldable pub open_saturation : ℕ
unfolding Saturation.is_result Saturation.held Saturation.is_entry Saturation.entry_number Saturation.with_entry Saturation.add Saturation.add_all Saturation.extend Saturation.results Saturation.round Saturation.table_after Saturation.adds_move Saturation.size_of Saturation.within Saturation.saturate_from Saturation.saturate Saturation.rounds_added Saturation.up_to Saturation.last_up_to Saturation.before Saturation.round_of Saturation.own_moves
open_saturation = 0

unfoldable pub open_won : ℕ
unfolding Won.least_from Won.won1 Won.won2
open_won = 0

unfoldable pub computed : ℕ
unfolding open_lists open_order open_sets open_stack open_system open_acceptance open_automaton open_derivation open_saturation open_won
computed = 0
