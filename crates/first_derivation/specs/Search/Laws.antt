-- The nested search finds the first derivation of the list.
-- Assumes nothing.
use Rattle.std.specs.Prelude.{ℕ, suc, ◌+◌, true, ◌||◌, ◌≡◌, get_or}
use Rattle.std.proofs.Math.Bool.{Bool, false, ◌&&◌}
use Rattle.std.proofs.lemmas.Bool.{false≢true}
use Rattle.std.proofs.Math.Path.{refl, ap, ap₂, sym}
use Rattle.std.proofs.Common.{◌∙◌, eqb-true, eq-eqb}
use Rattle.std.proofs.Math.Option.{Option, none, some, map, map-map}
use mathlib.Core.List.{List, [], ◌∷◌}
use Rattle.std.proofs.Math.Dec.{eqb}
use Rattle.words.specs.Sets.{join, single, members}
use Rattle.words.proofs.Sets.Laws.{join_empty_left}
use Rattle.words.specs.Lists.{each, when, first}
use Rattle.words.specs.Lists.Laws.{none_first}
use Rattle.words.specs.Laws.Tests.{by_test, and_left, and_right}
use Rattle.words.specs.Order.{same}
use Rattle.words.specs.Order.Laws.{same_eq}
use Rattle.stacks.specs.Stack.{Operation, rewrite, push1, push2, copy, pop1, pop2, collapse1, collapse2}
use Rattle.stacks.specs.System.{Rule}
use Rattle.automata.specs.Automaton.{Automaton, move_at, entry_set}
use Rattle.automata.specs.Derivation.{Result, result_key, Derivation, Joins, no_joins, joins_of, join_all, readings, edge_choices, named, edge_sets, control_moves, control_entries, conclude, by_rewrite, by_push1, by_push2, by_copy, by_pop1, by_pop2, by_collapse1, by_collapse2, derivations_by, derivations_from, derivations, first_derivation}
use Rattle.automata.proofs.Derivation.Laws.{conclusion, result_key_eq, says_goes, derivations_by_out}
use Rattle.first_reading.specs.First.{or_else, only_if, first_of}
use Rattle.first_reading.specs.First.Laws.{only_if_yes, only_if_no, first_one, first_when, only_if_none, map_only_if, first_append_else, first_of_same, first_of_only_if, first_of_first, first_each, map_first_of}
use Rattle.first_reading.specs.Search.{joins_key, wanted, Numbers, no_numbers, only_moves, first_reading, first_edges}
use Rattle.first_reading.specs.Search.Laws.{reached, same_cons, reading_first, at_edges, edges_first}
use Rattle.first_derivation.specs.Search.{PremiseNumbers, with_premise, derived, by_move, by_entry, first_move, first_entry, entry_joins, by_none, first_step, by_rule, first_from}

-- ---- one rule

-- the derivation has result x
abbrev pub gives : Result → Derivation → Bool
gives x d = same (result_key d.result) (result_key x)

-- the derivation of x by rule n with this premise, edges and moves
abbrev pub step_of : List ℕ → List ℕ → List ℕ → PremiseNumbers
step_of premise es ms = record { premise = premise; numbers = record { edges = es; moves = ms } }

only_if_both : {B : Type 0} (u v : Bool) (o p : Option B) → (u ≡ true → v ≡ true → o ≡ p) → only_if (u && v) o ≡ only_if u (only_if v p)
unfolding only_if
only_if_both true true o p h = h refl refl
only_if_both true false o p h = refl
only_if_both false v o p h = refl

-- a result of these joins that goes to a matching control and symbol
gives_is : (c S a : ℕ) (j : Joins) (x : Result) → c ≡ x.control → a ≡ x.symbol
    → same (result_key (record { control = c; S = S; symbol = a; order = j.order; B = j.B; R = j.R })) (result_key x)
    ≡ eqb S x.S && same (joins_key j) (wanted x)
unfolding result_key joins_key wanted
gives_is c S a j x e f =
    let ks : List ℕ = j.order ∷ j.B ∷ j.R ∷ [] in
    let ls : List ℕ = x.order ∷ x.B ∷ x.R ∷ [] in
    same_cons c x.control (S ∷ a ∷ ks) (x.S ∷ x.symbol ∷ ls)
    ∙ ap (λ (t : Bool). t && same (S ∷ a ∷ ks) (x.S ∷ x.symbol ∷ ls)) (eq-eqb c x.control e)
    ∙ same_cons S x.S (a ∷ ks) (x.symbol ∷ ls)
    ∙ ap (λ (t : Bool). eqb S x.S && t) (same_cons a x.symbol ks ls ∙ ap (λ (t : Bool). t && same ks ls) (eq-eqb a x.symbol f))

-- such a result is x
result_is : (c S a : ℕ) (j : Joins) (x : Result) → c ≡ x.control → a ≡ x.symbol → eqb S x.S ≡ true → same (joins_key j) (wanted x) ≡ true
    → ◌≡◌ {A = Result} (record { control = c; S = S; symbol = a; order = j.order; B = j.B; R = j.R }) x
unfolding joins_key wanted
result_is c S a j x e f g h =
    let s : S ≡ x.S = eqb-true S x.S g in
    let k : j.order ∷ j.B ∷ j.R ∷ [] ≡ x.order ∷ x.B ∷ x.R ∷ [] = same_eq _ _ h in
    λ i. record { control = e i; S = s i; symbol = f i; order = get_or (k i) 0 0; B = get_or (k i) 1 0; R = get_or (k i) 2 0 }

module _ (A : Automaton) (n : ℕ) (ρ : Rule) (x : Result) (control : ρ.control ≡ x.control) (symbol : ρ.symbol ≡ x.symbol) where
  concluded : (premise es ms : List ℕ) (S : ℕ) (o : Option Joins) → first (gives x) (conclude A n ρ premise es ms S o)
      ≡ only_if (eqb S x.S) (only_if (reached (wanted x) o) (some (derived n x (step_of premise es ms))))
  unfolding conclude first reached
  concluded premise es ms S none = sym (ap (only_if (eqb S x.S)) (only_if_no {B = Derivation} false (some (derived n x (step_of premise es ms))) refl) ∙ only_if_none {B = Derivation} (eqb S x.S))
  concluded premise es ms S (some j) =
      first_one (gives x) (conclusion n ρ premise es ms S j)
      ∙ ap (λ (t : Bool). only_if t (some (conclusion n ρ premise es ms S j))) (gives_is ρ.control S ρ.symbol j x control symbol)
      ∙ only_if_both (eqb S x.S) (same (joins_key j) (wanted x)) (some (conclusion n ρ premise es ms S j)) (some (derived n x (step_of premise es ms)))
      (λ e f. ap (λ (r : Result). some (record { rule = n; premise = premise; edges = es; moves = ms; result = r }))
      (result_is ρ.control S ρ.symbol j x control symbol e f))

  -- the first reading of a list of derivations that differ in their moves alone
  by_readings : (premise es : List ℕ) (S R : ℕ) (j : Joins)
      → first (gives x) (each (readings A ρ.symbol R) (λ ms. conclude A n ρ premise es ms S (join_all A j ms)))
      ≡ only_if (eqb S x.S) (map (λ ms. derived n x (step_of premise es ms)) (first_reading A ρ.symbol (wanted x) (members R) j))
  unfolding readings
  by_readings premise es S R j =
      first_each (gives x) (readings A ρ.symbol R) (λ ms. conclude A n ρ premise es ms S (join_all A j ms))
      ∙ first_of_same (readings A ρ.symbol R) _ _ (λ ms. concluded premise es ms S (join_all A j ms))
      ∙ first_of_only_if (eqb S x.S) (readings A ρ.symbol R) (λ ms. only_if (reached (wanted x) (join_all A j ms)) (some (derived n x (step_of premise es ms))))
      ∙ ap (only_if (eqb S x.S))
      (first_of_first (λ ms. reached (wanted x) (join_all A j ms)) (λ ms. derived n x (step_of premise es ms)) (readings A ρ.symbol R)
      ∙ ap (map (λ ms. derived n x (step_of premise es ms))) (reading_first A ρ.symbol (wanted x) (members R) j))

  -- the derivation with premise i
  abbrev with_move : ℕ → Numbers → Derivation
  with_move i m = derived n x (with_premise i m)

  -- the derivations of each premise, where the first of them is known
  by_premises : (places : List ℕ) (f : ℕ → List Derivation) (g : ℕ → Option Numbers)
      → ((i : ℕ) → first (gives x) (f i) ≡ map (with_move i) (g i))
      → first (gives x) (each places f) ≡ map (derived n x) (first_of places (λ i. map (with_premise i) (g i)))
  by_premises places f g h =
      first_each (gives x) places f
      ∙ first_of_same places _ _ (λ i. h i ∙ sym (map-map (derived n x) (with_premise i) (g i)))
      ∙ sym (map_first_of (derived n x) places (λ i. map (with_premise i) (g i)))

  -- a derivation that chooses no edge and no move
  concluded_plain : (i S : ℕ) (j : Joins) → first (gives x) (conclude A n ρ (i ∷ []) [] [] S (some j))
      ≡ map (with_move i) (only_if (eqb S x.S) (only_if (same (joins_key j) (wanted x)) (some no_numbers)))
  unfolding reached
  concluded_plain i S j =
      concluded (i ∷ []) [] [] S (some j)
      ∙ ap (only_if (eqb S x.S)) (sym (map_only_if (with_move i) (same (joins_key j) (wanted x)) (some no_numbers)))
      ∙ sym (map_only_if (with_move i) (eqb S x.S) (only_if (same (joins_key j) (wanted x)) (some no_numbers)))

  -- a derivation that chooses moves alone
  readings_plain : (i S R : ℕ) (j : Joins)
      → first (gives x) (each (readings A ρ.symbol R) (λ ms. conclude A n ρ (i ∷ []) [] ms S (join_all A j ms)))
      ≡ map (with_move i) (only_if (eqb S x.S) (map only_moves (first_reading A ρ.symbol (wanted x) (members R) j)))
  readings_plain i S R j =
      by_readings (i ∷ []) [] S R j
      ∙ ap (only_if (eqb S x.S)) (sym (map-map (with_move i) only_moves (first_reading A ρ.symbol (wanted x) (members R) j)))
      ∙ sym (map_only_if (with_move i) (eqb S x.S) (map only_moves (first_reading A ρ.symbol (wanted x) (members R) j)))

  -- the same under a test of the premise
  readings_tested : (t : Bool) (i S R : ℕ) (j : Joins)
      → first (gives x) (when t (each (readings A ρ.symbol R) (λ ms. conclude A n ρ (i ∷ []) [] ms S (join_all A j ms))))
      ≡ map (with_move i) (only_if t (only_if (eqb S x.S) (map only_moves (first_reading A ρ.symbol (wanted x) (members R) j))))
  readings_tested t i S R j =
      first_when (gives x) t (each (readings A ρ.symbol R) (λ ms. conclude A n ρ (i ∷ []) [] ms S (join_all A j ms)))
      ∙ ap (only_if t) (readings_plain i S R j)
      ∙ sym (map_only_if (with_move i) t (only_if (eqb S x.S) (map only_moves (first_reading A ρ.symbol (wanted x) (members R) j))))

  -- a derivation that chooses edges and moves
  edges_plain : (i S : ℕ) (j : Joins)
      → first (gives x) (each (edge_choices A S) (λ es. each (readings A ρ.symbol (named A es)) (λ ms. conclude A n ρ (i ∷ []) es ms (edge_sets A es) (join_all A j ms))))
      ≡ map (with_move i) (first_edges A ρ.symbol (wanted x) j x.S (members S) 0 0)
  unfolding edge_choices at_edges
  edges_plain i S j =
      first_each (gives x) (edge_choices A S) _
      ∙ first_of_same (edge_choices A S) _ _ (λ es. one es)
      ∙ sym (map_first_of (with_move i) (edge_choices A S) (at_edges A ρ.symbol (wanted x) j x.S 0 0))
      ∙ ap (map (with_move i)) (edges_first A ρ.symbol (wanted x) j x.S (members S) 0 0)
    where
      one : (es : List ℕ) → first (gives x) (each (readings A ρ.symbol (named A es)) (λ ms. conclude A n ρ (i ∷ []) es ms (edge_sets A es) (join_all A j ms)))
          ≡ map (with_move i) (at_edges A ρ.symbol (wanted x) j x.S 0 0 es)
      one es =
          by_readings (i ∷ []) es (edge_sets A es) (named A es) j
          ∙ ap₂ (λ (s r : ℕ). only_if (eqb s x.S) (map (λ ms. derived n x (step_of (i ∷ []) es ms)) (first_reading A ρ.symbol (wanted x) (members r) j)))
          (sym (join_empty_left (edge_sets A es))) (sym (join_empty_left (named A es)))
          ∙ ap (only_if (eqb (join 0 (edge_sets A es)) x.S))
          (sym (map-map (with_move i) (λ ms. record { edges = es; moves = ms }) (first_reading A ρ.symbol (wanted x) (members (join 0 (named A es))) j)))
          ∙ sym (map_only_if (with_move i) (eqb (join 0 (edge_sets A es)) x.S)
          (map (λ ms. record { edges = es; moves = ms }) (first_reading A ρ.symbol (wanted x) (members (join 0 (named A es))) j)))

  -- no premise
  concluded_none : (S : ℕ) (j : Joins) → first (gives x) (conclude A n ρ [] [] [] S (some j)) ≡ map (derived n x) (by_none x S j)
  unfolding by_none reached
  concluded_none S j =
      concluded [] [] [] S (some j)
      ∙ ap (only_if (eqb S x.S)) (sym (map_only_if (derived n x) (same (joins_key j) (wanted x)) (some (step_of [] [] []))))
      ∙ sym (map_only_if (derived n x) (eqb S x.S) (only_if (same (joins_key j) (wanted x)) (some (step_of [] [] []))))

  -- the first derivation of x by a rule of x's control and symbol
  pub step_first : (op : Operation) → first (gives x) (derivations_by A n ρ op) ≡ map (derived n x) (first_step A ρ.symbol x op ρ.next)
  unfolding derivations_by first_step first_move first_entry entry_joins by_move by_entry by_rewrite by_push1 by_push2 by_copy by_pop1 by_pop2 by_collapse1 by_collapse2
  step_first (rewrite b) =
      by_premises (control_moves A ρ.next b) _ (by_move A ρ.symbol x (rewrite b)) λ i.
      concluded_plain i (entry_set A (move_at A i).state) (joins_of (move_at A i))
  step_first (push1 b) =
      by_premises (control_moves A ρ.next b) _ (by_move A ρ.symbol x (push1 b)) λ i.
      readings_tested (eqb (move_at A i).order 0 || eqb (move_at A i).order 1) i (entry_set A (move_at A i).state) (move_at A i).R (record { order = 0; B = 0; R = (move_at A i).B })
  step_first (push2 b) =
      by_premises (control_moves A ρ.next b) _ (by_move A ρ.symbol x (push2 b)) λ i.
      readings_tested (eqb (move_at A i).order 0 || eqb (move_at A i).order 2) i (join (entry_set A (move_at A i).state) (move_at A i).B) (move_at A i).R no_joins
  step_first copy =
      by_premises (control_moves A ρ.next ρ.symbol) _ (by_move A ρ.symbol x copy) λ i.
      edges_plain i (entry_set A (move_at A i).state) (joins_of (move_at A i))
  step_first pop1 =
      by_premises (control_entries A ρ.next) _ (by_entry A x (entry_joins false)) λ e.
      concluded_plain e (entry_set A (A.J + e)) (record { order = 0; B = 0; R = single (A.J + e) })
  step_first pop2 = concluded_none (single ρ.next) no_joins
  step_first collapse1 =
      by_premises (control_entries A ρ.next) _ (by_entry A x (entry_joins true)) λ e.
      concluded_plain e (entry_set A (A.J + e)) (record { order = 1; B = single (A.J + e); R = 0 })
  step_first collapse2 = concluded_none 0 (record { order = 2; B = single ρ.next; R = 0 })

-- ---- all rules

module _ (A : Automaton) (x : Result) where
  -- a rule of another control or symbol gives no derivation of x
  other_rule : (n : ℕ) (ρ : Rule) → eqb ρ.control x.control && eqb ρ.symbol x.symbol ≡ false
      → first (gives x) (derivations_by A n ρ ρ.operation) ≡ none
  unfolding result_key
  other_rule n ρ h = none_first (gives x) (derivations_by A n ρ ρ.operation) λ d i.
      by_test (gives x d)
      (λ e.
      let k : d.result ≡ x = result_key_eq d.result x (same_eq _ _ e) in
      let g = says_goes A ρ ρ.operation d (derivations_by_out A n ρ ρ.operation i).1 in
      let c : ρ.control ≡ x.control = sym g.0 ∙ ap (λ (r : Result). r.control) k in
      let s : ρ.symbol ≡ x.symbol = sym g.1 ∙ ap (λ (r : Result). r.symbol) k in
      absurd (false≢true (sym h ∙ ap₂ ◌&&◌ (eq-eqb _ _ c) (eq-eqb _ _ s))))
      (λ e. e)

  pub rule_first : (n : ℕ) (ρ : Rule) → first (gives x) (derivations_by A n ρ ρ.operation) ≡ map (derived n x) (by_rule A x ρ)
  unfolding by_rule
  rule_first n ρ =
      let t : Bool = eqb ρ.control x.control && eqb ρ.symbol x.symbol in
      let o : Option PremiseNumbers = first_step A ρ.symbol x ρ.operation ρ.next in
      by_test t
      (λ e.
      step_first A n ρ x (eqb-true _ _ (and_left (eqb ρ.control x.control) _ e)) (eqb-true _ _ (and_right (eqb ρ.control x.control) _ e)) ρ.operation
      ∙ ap (map (derived n x)) (sym (only_if_yes t o e)))
      (λ e. other_rule n ρ e ∙ ap (map (derived n x)) (sym (only_if_no t o e)))

  from_first : (n : ℕ) (rules : List Rule) → first (gives x) (derivations_from A n rules) ≡ first_from A x n rules
  unfolding derivations_from first_from first
  from_first n [] = refl
  from_first n (ρ ∷ rules) =
      first_append_else (gives x) (derivations_by A n ρ ρ.operation) (derivations_from A (suc n) rules)
      ∙ ap₂ or_else (rule_first n ρ) (from_first (suc n) rules)

  -- The nested search finds the first derivation.
  pub derivation_first : (rules : List Rule) → first_derivation A rules x ≡ first_from A x 0 rules
  unfolding first_derivation derivations
  derivation_first rules = from_first 0 rules
