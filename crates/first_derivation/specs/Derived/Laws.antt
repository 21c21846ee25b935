-- The loop over the rules finds the first derivation.
-- Assumes nothing.
use Prim.Native.Nat.{ℕ, zero, suc, ◌+◌, ◌<◌, ◌≤◌}
use Rattle.std.proofs.Math.Bool.{true}
use Rattle.std.specs.Prelude.{◌≡◌, get_or, None, Some, Option as Found}
use Rattle.std.proofs.Math.Path.{refl, ap, ap₂, sym, subst}
use Rattle.std.proofs.Common.{◌∙◌, add-zero, zero-add}
use Rattle.std.proofs.Math.Option.{Option, none, some, map, some-injective, some-ne-none}
use mathlib.Core.List.{List, [], ◌∷◌}
use native.Mathlib.Omega.{arith}
use Rattle.std.proofs.Math.ListN.{length}
use Rattle.words.specs.Lists.Laws.{get_elem?_below}
use Rattle.stacks.specs.Stack.{Operation}
use Rattle.stacks.specs.System.{Rule}
use Rattle.automata.specs.Automaton.{Automaton}
use Rattle.automata.specs.Derivation.{Result, first_derivation}
use Rattle.walks.specs.Guide.{first_or_zero}
use Rattle.files.specs.Case.{rule_bytes, rule_of}
use Rattle.bytes_in.specs.Records.{record_at}
use Rattle.tables.specs.Rows.Laws.{length_first_of, get_or_first_of}
use Rattle.results.specs.Collecting.{rule_in, rules_in}
use Rattle.first_reading.specs.First.{is_some, or_else, first_below}
use Rattle.first_reading.specs.First.Laws.{or_else_none, or_else_assoc}
use Rattle.first_reading.specs.Answer.{written_all, NotFoundBelow, Unchanged}
use Rattle.first_reading.specs.Answer.Laws.{answer_map, answers_none, answers_is, answers_eq, answers_from, answers_fails, is_some_map, passed_hit, passed_all}
use Rattle.first_derivation.specs.Search as Search
use Rattle.first_derivation.specs.Search.{derived, by_rule, first_from}
use Rattle.first_derivation.specs.Search.Laws.{derivation_first}
use Rattle.first_derivation.specs.Premises.{edge_states, read_states, writes_edges, writes_moves, step_edges, step_moves, premise_in, premise_of, FindsByRule}
use Rattle.first_derivation.specs.Derived.{operation_by, derivation_edges, derivation_moves, step_of, FindsFirst, rule_gives}

-- the first of the numbers below n, from the left
first_below_left : {B : Type 0} (f : ℕ → Option B) (n : ℕ) → first_below (suc n) f ≡ or_else (f 0) (first_below n (λ k. f (suc k)))
unfolding first_below or_else
first_below_left f zero = sym (or_else_none (f 0))
first_below_left f (suc n) = ap (λ o. or_else o (f (suc n))) (first_below_left f n) ∙ or_else_assoc (f 0) (first_below n (λ k. f (suc k))) (f (suc n))

first_below_same : {B : Type 0} (f g : ℕ → Option B) (n : ℕ) → ((k : ℕ) → k < n → f k ≡ g k) → first_below n f ≡ first_below n g
unfolding first_below
first_below_same f g zero h = refl
first_below_same f g (suc n) h = ap₂ or_else (first_below_same f g n (λ k l. h k (omega arith))) (h n (omega arith))

module _ (A : Automaton) (x : Result) (d : Rule) where
  from_below : (n : ℕ) (rules : List Rule)
      → first_from A x n rules ≡ first_below (length rules) (λ k. map (derived (n + k) x) (by_rule A x (get_or rules k d)))
  unfolding first_from first_below
  from_below n [] = refl
  from_below n (ρ ∷ rules) =
      let shift : (k : ℕ) → suc n + k ≡ n + suc k = λ k. omega arith in
      ap₂ or_else (ap (λ (k : ℕ). map (derived k x) (by_rule A x ρ)) (sym (add-zero n)))
      (from_below (suc n) rules
      ∙ first_below_same _ _ (length rules) (λ k l. ap (λ (i : ℕ). map (derived i x) (by_rule A x (get_or rules k d))) (shift k)))
      ∙ sym (first_below_left (λ k. map (derived (n + k) x) (by_rule A x (get_or (ρ ∷ rules) k d))) (length rules))

-- ---- the rules of a body

module _ (n : ℕ) (body : List ℕ) where
  length_rules_in : length (rules_in n body) ≡ n
  unfolding rules_in
  length_rules_in = length_first_of n (rule_in body)

  get_or_rules_in : (k : ℕ) (d : Rule) → k < n → get_or (rules_in n body) k d ≡ rule_in body k
  unfolding rules_in
  get_or_rules_in k d h = get_or_first_of n (rule_in body) k d h

  -- the operation of a rule of the body
  operation_in : (k : ℕ) → k < n → operation_by (rules_in n body) k ≡ (rule_in body k).operation
  unfolding operation_by
  operation_in k h =
      let l : length (rules_in n body) ≡ n = length_rules_in in
      rw (operation_by, get_elem?_below (rules_in n body) k (rule_in body 0) (omega arith)) (ap (λ (r : Rule). r.operation) (get_or_rules_in k (rule_in body 0) h))

-- ---- one rule

module _ (A : Automaton) (x : Result) (body : List ℕ) (k : ℕ) (ρ : Rule) (is : ρ ≡ rule_of (rule_bytes (record_at 5 k body))) where
  gives_is : rule_gives A x body k ≡ map (derived k x) (by_rule A x ρ)
  unfolding rule_gives rule_in
  gives_is = ap (λ (r : Rule). map (derived k x) (by_rule A x r)) (sym is)

  -- rule k does not give x
  pub rule_fails : {r : Found ℕ} {es₀ es ms₀ ms : List ℕ} → r ≡ None → FindsByRule A x ρ r es₀ es ms₀ ms
      → (rule_gives A x body k ≡ none) × (es ≡ es₀) × (ms ≡ ms₀)
  unfolding is_some
  rule_fails {r} e h =
      let f = answers_fails (answers_is (ap (λ (q : Found ℕ). is_some (premise_in q)) e) h.written) in
      (gives_is ∙ ap (map (derived k x)) f.0, f.1, f.2)

-- the numbers of a step by rule k
same_step : (x : Result) (k i : ℕ) (o : Option Search.PremiseNumbers) → some i ≡ premise_of o
    → some (record { rule = k; premise = i }) ≡ map step_of (map (derived k x) o)
same_step x k i none e = absurd (some-ne-none i e)
same_step x k i (some s) e = ap (λ (j : ℕ). some (record { rule = k; premise = j })) (some-injective i (first_or_zero s.premise) e)

-- ---- the loop

module _ (A : Automaton) (x : Result) (n : ℕ) (body : List ℕ) where
  abbrev R : List Rule
  R = rules_in n body

  rules_below : first_derivation A R x ≡ first_below n (rule_gives A x body)
  unfolding rule_gives
  rules_below =
      derivation_first A x R ∙ from_below A x (rule_in body 0) 0 R
      ∙ ap (λ (k : ℕ). first_below k (λ i. map (derived (0 + i) x) (by_rule A x (get_or R i (rule_in body 0))))) (length_rules_in n body)
      ∙ first_below_same _ _ n (λ k h. ap₂ (λ (i : ℕ) (r : Rule). map (derived i x) (by_rule A x r)) (zero-add k) (get_or_rules_in n body k (rule_in body 0) h))

  -- no rule gives x
  pub first_missing : {i : ℕ} {es₀ es ms₀ ms : List ℕ} → Unchanged es₀ es → Unchanged ms₀ ms → NotFoundBelow n (rule_gives A x body) i → n ≤ i
      → FindsFirst A R x None es₀ es ms₀ ms
  unfolding is_some
  first_missing {i} {es₀} {es} {ms₀} {ms} s t h l =
      let e : first_derivation A R x ≡ none = rules_below ∙ passed_all h l in
      record { numbers = ap (map step_of) (sym e); written = answers_from s t (answers_none es ms e) }

  -- rule k gives x
  pub rule_found : (k : ℕ) (ρ : Rule) → ρ ≡ rule_of (rule_bytes (record_at 5 k body)) → {i : ℕ} {r : Found ℕ} {es₀ es ms₀ ms : List ℕ} → r ≡ Some i
      → NotFoundBelow n (rule_gives A x body) k → k < n → FindsByRule A x ρ r es₀ es ms₀ ms
      → FindsFirst A R x (Some (record { rule = k; premise = i })) es₀ es ms₀ ms
  unfolding is_some rule_in derivation_edges derivation_moves step_edges step_moves writes_edges writes_moves
  rule_found k ρ is {i} {r} {es₀} {es} {ms₀} {ms} is-by h below g =
      let f : FindsByRule A x ρ (Some i) es₀ es ms₀ ms =
      subst (λ (q : Found ℕ). FindsByRule A x ρ q es₀ es ms₀ ms) is-by g in
      let op : operation_by R k ≡ ρ.operation = operation_in n body k below ∙ ap (λ (r : Rule). r.operation) (sym is) in
      let gives : rule_gives A x body k ≡ map (derived k x) (by_rule A x ρ) = gives_is A x body k ρ is in
      let s : is_some (rule_gives A x body k) ≡ true = ap is_some gives ∙ is_some_map (derived k x) (by_rule A x ρ) ∙ sym f.written.edges.success in
      let e : first_derivation A R x ≡ map (derived k x) (by_rule A x ρ) = rules_below ∙ passed_hit h below s ∙ gives in
      record {
        numbers = same_step x k i (by_rule A x ρ) f.number ∙ ap (map step_of) (sym e);
        written =
            answers_eq e
            (record {
              edges = answer_map (derived k x) (step_edges A ρ.operation) (derivation_edges A R)
                  (λ t ws. ap (λ (o : Operation). written_all (edge_states A o (first_or_zero t.premise)) t.numbers.edges ws) (sym op)) f.written.edges;
              moves = answer_map (derived k x) (step_moves A ρ.operation) (derivation_moves A R)
                  (λ t ws. ap (λ (o : Operation). written_all (read_states A o (first_or_zero t.premise) t.numbers.edges) t.numbers.moves ws) (sym op)) f.written.moves;
            });
      }
