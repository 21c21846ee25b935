-- The results of a rule are those of its derivations.
-- Assumes nothing.
use Rattle.std.specs.Prelude.{ℕ, suc, Bool, true, false, ◌≡◌, List, [], ◌∷◌, ◌++◌, map}
use Rattle.std.proofs.Math.Path.{refl}
use Rattle.std.proofs.Common.{ap, ap₂, ◌∙◌}
use Rattle.std.proofs.Math.Option.{Option, none, some}
use Rattle.std.proofs.lemmas.List.{map-append}
use Rattle.words.specs.Sets.{join, members}
use Rattle.words.specs.Lists.{each, when}
use Rattle.words.specs.Lists.Laws.{each_same}
use Rattle.stacks.specs.Stack.{Operation, rewrite, push1, push2, copy, pop1, pop2, collapse1, collapse2}
use Rattle.stacks.specs.System.{Rule}
use Rattle.automata.specs.Automaton.{Automaton, move_at, entry_set}
use Rattle.automata.specs.Derivation.{Result, Joins, no_joins, joins_of, join_all, readings, edge_choices, named, edge_sets, control_moves, control_entries, Derivation, conclude}
use Rattle.automata.specs.Derivation.{by_rewrite, by_push1, by_push2, by_copy, by_pop1, by_pop2, by_collapse1, by_collapse2, derivations_by, derivations_from, derivations}
use Rattle.automata.specs.Saturation.{results}
use Rattle.readings.specs.Readings.{result_to, from_joins, read_results, edge_results}
use Rattle.readings.specs.Readings.Laws.{readings_read, edges_read}
use Rattle.premises.specs.Premises.{order_fits, premise_results, moves_results}
use Rattle.results.specs.Rules.{entry_result, entries_results, operation_results, rule_results}

-- ---- maps

map_each : {X Y Z : Type 0} (g : Y → Z) (l : List X) (f : X → List Y) → map g (each l f) ≡ each l (λ x. map g (f x))
unfolding each
map_each g [] f = refl
map_each {Z = Z} g (x ∷ xs) f = map-append g (f x) (each xs f) ∙ ap (λ (k : List Z). map g (f x) ++ k) (map_each g xs f)

map_when : {X Y : Type 0} (g : X → Y) (b : Bool) (l : List X) → map g (when b l) ≡ when b (map g l)
unfolding when
map_when g true l = refl
map_when g false l = refl

-- ---- one rule

module _ (A : Automaton) (n : ℕ) (ρ : Rule) where
  conclude_result : (premise es ms : List ℕ) (S : ℕ) (o : Option Joins)
      → map (λ d. d.result) (conclude A n ρ premise es ms S o) ≡ from_joins o (λ j. result_to ρ.control ρ.symbol S j ∷ [])
  unfolding conclude from_joins
  conclude_result premise es ms S none = refl
  conclude_result premise es ms S (some j) = refl

  reading_result : (premise es : List ℕ) (S R : ℕ) (j : Joins)
      → map (λ d. d.result) (each (readings A ρ.symbol R) (λ ms. conclude A n ρ premise es ms S (join_all A j ms)))
      ≡ read_results A ρ.control ρ.symbol S (members R) j
  reading_result premise es S R j =
      map_each (λ d. d.result) (readings A ρ.symbol R) (λ ms. conclude A n ρ premise es ms S (join_all A j ms))
      ∙ each_same (readings A ρ.symbol R) (λ ms. map (λ d. d.result) (conclude A n ρ premise es ms S (join_all A j ms)))
      (λ ms. from_joins (join_all A j ms) (λ k. result_to ρ.control ρ.symbol S k ∷ [])) (λ ms m. conclude_result premise es ms S (join_all A j ms))
      ∙ readings_read A ρ.control ρ.symbol S R j

  push_result : (t : Bool) (premise : List ℕ) (S R : ℕ) (j : Joins)
      → map (λ d. d.result) (when t (each (readings A ρ.symbol R) (λ ms. conclude A n ρ premise [] ms S (join_all A j ms))))
      ≡ when t (read_results A ρ.control ρ.symbol S (members R) j)
  push_result t premise S R j =
      map_when (λ d. d.result) t (each (readings A ρ.symbol R) (λ ms. conclude A n ρ premise [] ms S (join_all A j ms)))
      ∙ ap (when t) (reading_result premise [] S R j)

  copy_result : (premise : List ℕ) (S : ℕ) (j : Joins)
      → map (λ d. d.result) (each (edge_choices A S) (λ es. each (readings A ρ.symbol (named A es)) (λ ms.
      conclude A n ρ premise es ms (edge_sets A es) (join_all A j ms))))
      ≡ edge_results A ρ.control ρ.symbol j (members S) 0 0
  copy_result premise S j =
      map_each (λ d. d.result) (edge_choices A S) (λ es. each (readings A ρ.symbol (named A es)) (λ ms.
      conclude A n ρ premise es ms (edge_sets A es) (join_all A j ms)))
      ∙ each_same (edge_choices A S) (λ es. map (λ d. d.result) (each (readings A ρ.symbol (named A es)) (λ ms.
      conclude A n ρ premise es ms (edge_sets A es) (join_all A j ms))))
      (λ es. read_results A ρ.control ρ.symbol (edge_sets A es) (members (named A es)) j)
      (λ es m. reading_result premise es (edge_sets A es) (named A es) j)
      ∙ edges_read A ρ.control ρ.symbol S j

  -- premises of one kind, where f gives the derivations by one and g their results
  premises : (l : List ℕ) (f : ℕ → List Derivation) (g : ℕ → List Result) → ((i : ℕ) → map (λ d. d.result) (f i) ≡ g i)
      → map (λ d. d.result) (each l f) ≡ each l g
  premises l f g h = map_each (λ d. d.result) l f ∙ each_same l (λ i. map (λ d. d.result) (f i)) g (λ i m. h i)

  operation_results_lem : (op : Operation) → map (λ d. d.result) (derivations_by A n ρ op) ≡ operation_results A ρ.control ρ.symbol op ρ.next
  unfolding derivations_by operation_results by_rewrite by_push1 by_push2 by_copy by_pop1 by_pop2 by_collapse1 by_collapse2 moves_results premise_results entries_results entry_result conclude
  operation_results_lem (rewrite b) = premises (control_moves A ρ.next b) _ _ (λ i. refl)
  operation_results_lem (push1 b) = premises (control_moves A ρ.next b) _ _
      (λ i. push_result (order_fits 1 (move_at A i)) (i ∷ []) (entry_set A (move_at A i).state) (move_at A i).R
      (record { order = 0; B = 0; R = (move_at A i).B }))
  operation_results_lem (push2 b) = premises (control_moves A ρ.next b) _ _
      (λ i. push_result (order_fits 2 (move_at A i)) (i ∷ []) (join (entry_set A (move_at A i).state) (move_at A i).B) (move_at A i).R no_joins)
  operation_results_lem copy = premises (control_moves A ρ.next ρ.symbol) _ _
      (λ i. copy_result (i ∷ []) (entry_set A (move_at A i).state) (joins_of (move_at A i)))
  operation_results_lem pop1 = premises (control_entries A ρ.next) _ _ (λ e. refl)
  operation_results_lem pop2 = refl
  operation_results_lem collapse1 = premises (control_entries A ρ.next) _ _ (λ e. refl)
  operation_results_lem collapse2 = refl

-- ---- all rules

results_from : (A : Automaton) (n : ℕ) (rules : List Rule) → map (λ d. d.result) (derivations_from A n rules) ≡ each rules (rule_results A)
unfolding derivations_from rule_results each
results_from A n [] = refl
results_from A n (ρ ∷ rules) =
    map-append (λ d. d.result) (derivations_by A n ρ ρ.operation) (derivations_from A (suc n) rules)
    ∙ ap₂ ◌++◌ (operation_results_lem A n ρ ρ.operation) (results_from A (suc n) rules)

-- the results that a round looks at
pub results_are : (rules : List Rule) (A : Automaton) → results rules A ≡ each rules (rule_results A)
unfolding results derivations
results_are rules A = results_from A 0 rules
