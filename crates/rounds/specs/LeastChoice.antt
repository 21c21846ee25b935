-- Derivations come in the order of least choices: least rule, then least premise, then least edges and then least moves by rising state. So
-- the first derivation of a result is the least. Of one state's edges the least number is the least (order-1 state, S).
-- Assumes nothing.
use Prim.Native.Nat.{ℕ, suc, ◌+◌, ◌≤◌, ◌<◌}
use Rattle.std.specs.Prelude.{Bool, ◌≡◌, ◌⊎◌, get_or}
use Rattle.std.proofs.Math.Bool.{true, false}
use Rattle.std.proofs.Math.Path.{refl, ap, sym, subst}
use Rattle.std.proofs.Common.{◌∙◌, inl, inr, arith}
use Rattle.std.proofs.Math.Logic.{⊎_elim}
use Rattle.std.proofs.Math.Option.{Option, none, some}
use mathlib.Core.List.Memᴰ
use mathlib.Core.List.{List, [], ◌∷◌, ◌++◌, map, Memᴰ}
use Rattle.std.proofs.Math.ListN.{length, length-map}
use Rattle.words.specs.Sets.{members}
use Rattle.words.specs.Lists.{each, when}
use Rattle.words.specs.Lists.Laws.{get_or_in, each_out, when_out, places_rising}
use Rattle.words.specs.Lists.Choices.{choices_out, chosen_length, choices_rising}
use Rattle.words.specs.Order.{less, same, rising, rising_from}
use Rattle.words.specs.Order.Laws.{less_lt, less_eq, one_less, eq_same, rising_append}
use Rattle.words.specs.Order.Rising.{rising_each, less_append, less_same_head, first_rising, rising_before, rising_with}
use Rattle.stacks.specs.Stack.{Operation, rewrite, push1, push2, copy, pop1, pop2, collapse1, collapse2}
use Rattle.stacks.specs.System.{Rule}
use Rattle.automata.specs.Automaton.{Automaton, Edge, no_edge, choice_key, edges, entry_edge, edge_at, move_at, moves_of, edges_of, entry_set}
use Rattle.automata.specs.Derivation.{Result, result_key, Derivation, Joins, joins_of, readings, edge_choices, named, edge_sets, join_all, control_moves, control_entries, conclude, by_rewrite, by_push1, by_push2, by_copy, by_pop1, by_pop2, by_collapse1, by_collapse2, derivations_by, derivations_from, derivations, first_derivation}
use Rattle.automata.proofs.Derivation.Laws.{derivations_by_out}
use Rattle.automata.specs.Automaton.Laws.{edges_of_out, edge_at_inner, entry_edge_lem, edge_cases}
use Rattle.automata.specs.Facts.{TableFacts}

-- a derivation's rule and choices, in the order in which the least is taken
unfoldable pub choice_order : Derivation → List ℕ
choice_order d = d.rule ∷ (d.premise ++ (d.edges ++ d.moves))

-- ---- readings and choices of edges

module _ (A : Automaton) where
  -- readings rise by the number of the move of the least state at which they differ
  pub readings_rising : (a R : ℕ) → rising (λ ns. ns) (readings A a R) ≡ true
  unfolding readings moves_of
  readings_rising a R = choices_rising (map (λ r. moves_of A r a) (members R)) (λ l j.
      let (r, i, e) = Memᴰ.of_map (λ r. moves_of A r a) (members R) j in
      subst (λ (k : List ℕ). rising (λ n. n ∷ []) k ≡ true) e (places_rising _ A.moves))

  pub edge_choices_rising : (S : ℕ) → rising (λ ns. ns) (edge_choices A S) ≡ true
  unfolding edge_choices edges_of
  edge_choices_rising S = choices_rising (map (λ q. edges_of A q) (members S)) (λ l j.
      let (q, i, e) = Memᴰ.of_map (λ q. edges_of A q) (members S) j in
      subst (λ (k : List ℕ). rising (λ n. n ∷ []) k ≡ true) e (places_rising _ _))

  -- they have one number for each state
  edge_choices_length : (S : ℕ) {es : List ℕ} → Memᴰ es (edge_choices A S) → length es ≡ length (members S)
  unfolding edge_choices
  edge_choices_length S j = chosen_length (choices_out (map (λ q. edges_of A q) (members S)) j) ∙ length-map (members S) (λ q. edges_of A q)

  -- ---- one rule

  module _ (n : ℕ) (ρ : Rule) where
    conclude_rising : (premise es ms : List ℕ) (S : ℕ) (o : Option Joins) → rising choice_order (conclude A n ρ premise es ms S o) ≡ true
    unfolding conclude rising rising_from
    conclude_rising premise es ms S none = refl
    conclude_rising premise es ms S (some j) = refl

    conclude_order : (premise es ms : List ℕ) (S : ℕ) (o : Option Joins) {d : Derivation} → Memᴰ d (conclude A n ρ premise es ms S o)
        → choice_order d ≡ n ∷ (premise ++ (es ++ ms))
    unfolding conclude choice_order
    conclude_order premise es ms S none j = absurd (Memᴰ.not-nil j)
    conclude_order premise es ms S (some k) j = ap choice_order (Memᴰ.eq_of_singleton j)

    -- each derivation of f i has premise i
    Premised : (ℕ → List Derivation) → Type 0
    Premised f = (i : ℕ) (d : Derivation) → Memᴰ d (f i) → (rest : List ℕ) × (choice_order d ≡ n ∷ i ∷ rest)

    premised_rising : (l : List ℕ) (f : ℕ → List Derivation) → rising (λ i. i ∷ []) l ≡ true → ((i : ℕ) → rising choice_order (f i) ≡ true) → Premised f
        → rising choice_order (each l f) ≡ true
    unfolding Premised
    premised_rising l f r h p = rising_each (λ i. i ∷ []) choice_order l f r (λ i j. h i) (λ i k _ _ o u v a b.
        let (x, e) = p i u a in
        let (y, g) = p k v b in
        rw (e, g) (less_eq n n (i ∷ x) (k ∷ y) refl ∙ less_lt i k x y (one_less i k o)))

    -- one derivation for each premise
    plain_rising : (l : List ℕ) (S : ℕ → ℕ) (o : ℕ → Option Joins) → rising (λ i. i ∷ []) l ≡ true
        → rising choice_order (each l (λ i. conclude A n ρ (i ∷ []) [] [] (S i) (o i))) ≡ true
    unfolding Premised
    plain_rising l S o r = premised_rising l _ r (λ i. conclude_rising (i ∷ []) [] [] (S i) (o i)) (λ i d j. ([], conclude_order (i ∷ []) [] [] (S i) (o i) j))

    -- the derivations with premise i and edges es, one for each reading
    read_rising : (i : ℕ) (es : List ℕ) (a R S : ℕ) (o : List ℕ → Option Joins)
        → rising choice_order (each (readings A a R) (λ ms. conclude A n ρ (i ∷ []) es ms S (o ms))) ≡ true
    read_rising i es a R S o = rising_each (λ ns. ns) choice_order (readings A a R) _ (readings_rising a R)
        (λ ms j. conclude_rising (i ∷ []) es ms S (o ms))
        (λ ms ns _ _ l u v x y. rw (conclude_order (i ∷ []) es ms S (o ms) x, conclude_order (i ∷ []) es ns S (o ns) y)
        (less_eq n n (i ∷ (es ++ ms)) (i ∷ (es ++ ns)) refl ∙ less_eq i i (es ++ ms) (es ++ ns) refl ∙ less_same_head es ms ns ∙ l))

    read_order : (i : ℕ) (es : List ℕ) (a R S : ℕ) (o : List ℕ → Option Joins) {d : Derivation}
        → Memᴰ d (each (readings A a R) (λ ms. conclude A n ρ (i ∷ []) es ms S (o ms))) → (ms : List ℕ) × (choice_order d ≡ n ∷ i ∷ (es ++ ms))
    read_order i es a R S o j =
        let (ms, k, h) = each_out (readings A a R) _ j in
        (ms, conclude_order (i ∷ []) es ms S (o ms) h)

    when_rising : (t : Bool) (l : List Derivation) → rising choice_order l ≡ true → rising choice_order (when t l) ≡ true
    unfolding when rising
    when_rising true l r = r
    when_rising false l r = refl

    -- the derivations by a push
    push_rising : (l : List ℕ) (test : ℕ → Bool) (R S : ℕ → ℕ) (o : ℕ → List ℕ → Option Joins) → rising (λ i. i ∷ []) l ≡ true
        → rising choice_order (each l (λ i. when (test i) (each (readings A ρ.symbol (R i)) (λ ms. conclude A n ρ (i ∷ []) [] ms (S i) (o i ms))))) ≡ true
    unfolding Premised
    push_rising l test R S o r = premised_rising l _ r
        (λ i. when_rising (test i) _ (read_rising i [] ρ.symbol (R i) (S i) (o i)))
        (λ i d j. read_order i [] ρ.symbol (R i) (S i) (o i) (when_out (test i) _ j).1)

    copy_rising : rising choice_order (by_copy A n ρ) ≡ true
    unfolding by_copy control_moves Premised
    copy_rising = premised_rising (control_moves A ρ.next ρ.symbol) _ (places_rising _ A.moves) rise (λ i d j.
        let (es, k, h) = each_out (edge_choices A (entry_set A (move_at A i).state)) _ j in
        let (ms, e) = order i es h in
        (es ++ ms, e))
      where
        body : ℕ → List ℕ → List Derivation
        body i es = each (readings A ρ.symbol (named A es)) (λ ms. conclude A n ρ (i ∷ []) es ms (edge_sets A es) (join_all A (joins_of (move_at A i)) ms))

        order : (i : ℕ) (es : List ℕ) {d : Derivation} → Memᴰ d (body i es) → (ms : List ℕ) × (choice_order d ≡ n ∷ i ∷ (es ++ ms))
        order i es j = read_order i es ρ.symbol (named A es) (edge_sets A es) (λ ms. join_all A (joins_of (move_at A i)) ms) j

        rise : (i : ℕ) → rising choice_order (each (edge_choices A (entry_set A (move_at A i).state)) (body i)) ≡ true
        rise i =
            let S : ℕ = entry_set A (move_at A i).state in
            rising_each (λ ns. ns) choice_order (edge_choices A S) (body i) (edge_choices_rising S)
            (λ es j. read_rising i es ρ.symbol (named A es) (edge_sets A es) (λ ms. join_all A (joins_of (move_at A i)) ms))
            (λ es fs j k l u v x y.
            let (ms, e) = order i es x in
            let (ns, f) = order i fs y in
            rw (e, f) (less_eq n n (i ∷ (es ++ ms)) (i ∷ (fs ++ ns)) refl ∙ less_eq i i (es ++ ms) (fs ++ ns) refl
            ∙ less_append es fs ms ns (edge_choices_length S j ∙ sym (edge_choices_length S k)) l))

    derivations_by_rising : (op : Operation) → rising choice_order (derivations_by A n ρ op) ≡ true
    unfolding derivations_by by_rewrite by_push1 by_push2 by_pop1 by_pop2 by_collapse1 by_collapse2 control_moves control_entries
    derivations_by_rising (rewrite b) = plain_rising (control_moves A ρ.next b) _ _ (places_rising _ A.moves)
    derivations_by_rising (push1 b) = push_rising (control_moves A ρ.next b) _ _ _ _ (places_rising _ A.moves)
    derivations_by_rising (push2 b) = push_rising (control_moves A ρ.next b) _ _ _ _ (places_rising _ A.moves)
    derivations_by_rising copy = copy_rising
    derivations_by_rising pop1 = plain_rising (control_entries A ρ.next) _ _ (places_rising _ A.entries)
    derivations_by_rising pop2 = conclude_rising [] [] [] _ _
    derivations_by_rising collapse1 = plain_rising (control_entries A ρ.next) _ _ (places_rising _ A.entries)
    derivations_by_rising collapse2 = conclude_rising [] [] [] _ _

  -- ---- all rules

  derivations_from_rule : (n : ℕ) (rules : List Rule) {d : Derivation} → Memᴰ d (derivations_from A n rules) → n ≤ d.rule
  unfolding derivations_from
  derivations_from_rule n [] j = absurd (Memᴰ.not-nil j)
  derivations_from_rule n (ρ ∷ rules) {d} j = ⊎_elim
      (λ i. let e : d.rule ≡ n = (derivations_by_out A n ρ ρ.operation i).0 in omega arith)
      (λ i. let l : suc n ≤ d.rule = derivations_from_rule (suc n) rules i in omega arith)
      (Memᴰ.append_cases (derivations_by A n ρ ρ.operation) j)

  derivations_from_rising : (n : ℕ) (rules : List Rule) → rising choice_order (derivations_from A n rules) ≡ true
  unfolding derivations_from rising choice_order
  derivations_from_rising n [] = refl
  derivations_from_rising n (ρ ∷ rules) =
      rising_append choice_order (derivations_by A n ρ ρ.operation) (derivations_from A (suc n) rules) (derivations_by_rising n ρ ρ.operation)
      (derivations_from_rising (suc n) rules) (λ u v i j.
      let e : u.rule ≡ n = (derivations_by_out A n ρ ρ.operation i).0 in
      let l : suc n ≤ v.rule = derivations_from_rule (suc n) rules j in
      less_lt u.rule v.rule _ _ (omega arith))

  pub derivations_rising : (rules : List Rule) → rising choice_order (derivations A rules) ≡ true
  unfolding derivations
  derivations_rising rules = derivations_from_rising 0 rules

  -- every other derivation of the result comes after the first
  pub first_least : (rules : List Rule) (x : Result) {d e : Derivation} → first_derivation A rules x ≡ some d → Memᴰ e (derivations A rules) → e.result ≡ x
      → (e ≡ d) ⊎ (less (choice_order d) (choice_order e) ≡ true)
  unfolding first_derivation
  first_least rules x {d} {e} h j z =
      first_rising choice_order (λ y. same (result_key y.result) (result_key x)) (derivations A rules) (derivations_rising rules) h j
      (eq_same (result_key e.result) (result_key x) (ap result_key z))

-- ---- the edges of a state

module _ {P : ℕ} {A : Automaton} (F : TableFacts P A) where
  -- of two edges of one state, the one with the smaller number has the smaller (order-1 state, S)
  pub edge_order_lem : (i j : ℕ) → i < j → j < length (edges A) → (edge_at A i).state ≡ (edge_at A j).state
      → less (choice_key (edge_at A i)) (choice_key (edge_at A j)) ≡ true
  unfolding entry_edge choice_key
  edge_order_lem i j l h e = go (edge_cases A i (omega arith)) (edge_cases A j h)
    where
      Number : ℕ → Type 0
      Number k = (k < length A.inner) ⊎ ((n : ℕ) × (n < length A.entries) × (k ≡ entry_edge A n))

      by_first : (edge_at A i).first < (edge_at A j).first → less (choice_key (edge_at A i)) (choice_key (edge_at A j)) ≡ true
      by_first k =
          less_eq (edge_at A i).state (edge_at A j).state _ _ e ∙ less_lt (edge_at A i).first (edge_at A j).first _ _ k

      entry_first : {k : ℕ} → (n : ℕ) → n < length A.entries → k ≡ entry_edge A n → (edge_at A k).first ≡ A.J + n
      entry_first n b q = rw q (entry_edge_lem A {e = n} (record { below = b; control_is = refl; set_is = refl })).first_is

      go : Number i → Number j → less (choice_key (edge_at A i)) (choice_key (edge_at A j)) ≡ true
      go (inl a) (inl b) = rw (edge_at_inner A i a, edge_at_inner A j b) (rising_before choice_key A.inner no_edge i j F.inner_rising l b)
      go (inl a) (inr (n, b, q)) =
          let f : (get_or A.inner i no_edge).first < A.J = (F.inner_facts (get_or A.inner i no_edge) (get_or_in A.inner i no_edge a)).to_inner in
          let g : (edge_at A i).first ≡ (get_or A.inner i no_edge).first = ap (λ (x : Edge). x.first) (edge_at_inner A i a) in
          let k : (edge_at A j).first ≡ A.J + n = entry_first n b q in
          by_first (omega arith)
      go (inr (n, b, q)) (inl a) = absurd (omega arith)
      go (inr (n, b, q)) (inr (m, c, p)) =
          let f : (edge_at A i).first ≡ A.J + n = entry_first n b q in
          let g : (edge_at A j).first ≡ A.J + m = entry_first m c p in
          by_first (omega arith)

  -- the edges of a state rise by (order-1 state, S)
  pub edges_of_rising : (q : ℕ) → rising (λ n. choice_key (edge_at A n)) (edges_of A q) ≡ true
  unfolding edges_of
  edges_of_rising q = rising_with (λ n. choice_key (edge_at A n)) (edges_of A q) (places_rising _ (edges A)) (λ m n i j l.
      let a = edges_of_out A q i in
      let b = edges_of_out A q j in
      edge_order_lem m n l b.below (a.state_is ∙ sym b.state_is))
