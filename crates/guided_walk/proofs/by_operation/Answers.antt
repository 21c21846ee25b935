-- `guided_walk::by_operation` meets its contract.
-- Assumes nothing.
use mathlib.Core.Path.{refl, ap}
use Rattle.std.proofs.Math.Logic.{⊎_elim}
use Rattle.case_records.specs.Values.{the_operation}
use Rattle.automata.specs.Automaton.{entry_edge}
use Rattle.cell_steps.specs.Steps.Choices.{top_state, root_edge}
use Rattle.guided_walk.specs.Stepped.Laws.{premise_small, choice_same}
use Rattle.guided_walk.proofs.by_operation.Goals as goal

pub by_move-requires : goal.by_move-requires
unfolding top_state
by_move-requires c =
    let h = c.requires.2 in
    let small = ⊎_elim (λ e. premise_small _ _ _ h (ap the_operation e.1) refl)
    (λ f. ⊎_elim (λ e. premise_small _ _ _ h (ap the_operation e.1) refl)
    (λ g. ⊎_elim (λ e. premise_small _ _ _ h (ap the_operation e.1) refl) (λ e. premise_small _ _ _ h (ap the_operation e) refl) g) f) c.in-Rewrite.is in
    (c.requires.0, c.requires.1, small)

pub returns-in-Rewrite : goal.returns-in-Rewrite
unfolding top_state root_edge entry_edge
returns-in-Rewrite c =
    let r = c.by_move.ensures in
    ⊎_elim (λ e. choice_same _ (ap the_operation e.1) r)
    (λ f. ⊎_elim (λ e. choice_same _ (ap the_operation e.1) r)
    (λ g. ⊎_elim (λ e. choice_same _ (ap the_operation e.1) r) (λ e. choice_same _ (ap the_operation e) r) g) f) c.in-Rewrite.is

pub returns-in-Pop1 : goal.returns-in-Pop1
unfolding top_state root_edge entry_edge
returns-in-Pop1 c =
    let r = c.by_entry.ensures in
    ⊎_elim (λ e. choice_same _ (ap the_operation e) r) (λ e. choice_same _ (ap the_operation e) r) c.in-Pop1.is

pub returns-in-Pop2 : goal.returns-in-Pop2
unfolding top_state root_edge entry_edge
returns-in-Pop2 c =
    let r = c.by_none.ensures in
    ⊎_elim (λ e. choice_same _ (ap the_operation e) r) (λ e. choice_same _ (ap the_operation e) r) c.in-Pop2.is
