-- A rule: no premise, the search by its operation, and its control and symbol.
-- Assumes nothing.
use Rattle.std.specs.Prelude.{ℕ, Bool, ◌≡◌, List, [], Option as Found}
use Rattle.std.proofs.Math.Bool.{true, false, ◌&&◌}
use Rattle.std.proofs.Math.Path.{refl, ap, sym, subst}
use Rattle.std.proofs.Common.{ap₂, ◌∙◌, eq-eqb, ne_eqb}
use Rattle.std.proofs.Math.Option.{Option, none, some}
use Rattle.std.proofs.Math.Dec.{eqb}
use Rattle.std.proofs.Math.Logic.{◌⊎◌, ⊎_elim}
use Rattle.words.specs.Sets.{single}
use Rattle.words.specs.Order.{same}
use Rattle.stacks.specs.Stack.{Operation, rewrite, push1, push2, copy, pop1, pop2, collapse1, collapse2}
use Rattle.stacks.specs.System.{Rule}
use Rattle.automata.specs.Automaton.{Automaton, entry_at, entry_set}
use Rattle.automata.specs.Derivation.{Result, Joins, no_joins, control_entries}
use Rattle.walks.specs.Guide.{first_or_zero}
use Rattle.tables.specs.declared.Table.{Table}
use Rattle.tables.specs.Held.{automaton_of, table_of}
use Rattle.case_records.specs.declared.Operation.{Operation as OperationWords}
use Rattle.case_records.specs.declared.Operation.TheVariants.{Rewrite, Push1, Push2}
use Rattle.case_records.specs.Values.{the_operation}
use Rattle.first_reading.specs.First.{only_if, is_some}
use Rattle.first_reading.specs.First.Laws.{only_if_yes, only_if_no, only_if_none}
use Rattle.first_reading.specs.Answer.{written_all}
use Rattle.first_reading.specs.Answer.Laws.{answer_still, is_some_map}
use Rattle.first_reading.specs.Search.{joins_key, wanted}
use Rattle.first_derivation.specs.Search.{PremiseNumbers, by_entry, first_entry, first_move, entry_joins, by_none, first_step, by_rule}
use Rattle.first_derivation.specs.Premises.{writes_edges, writes_moves, edge_states, read_states, step_edges, step_moves, premise_in, Finds, premise_of, FindsMove, FindsStep, FindsByRule}

-- ---- no premise

module _ (x : Result) (S : ℕ) (j : Joins) where
  pub none_set : eqb S x.S ≡ false → none ≡ premise_of (by_none x S j)
  unfolding by_none
  none_set h = sym (ap premise_of (only_if_no _ _ h))

  pub none_joins : same (joins_key j) (wanted x) ≡ false → none ≡ premise_of (by_none x S j)
  unfolding by_none
  none_joins h = sym (ap premise_of (ap (only_if (eqb S x.S)) (only_if_no _ _ h) ∙ only_if_none _))

  pub none_gives : eqb S x.S ≡ true → same (joins_key j) (wanted x) ≡ true → some 0 ≡ premise_of (by_none x S j)
  unfolding by_none first_or_zero
  none_gives h g = sym (ap premise_of (only_if_yes _ _ h ∙ only_if_yes _ _ g))

-- ---- by the operation

-- the operation chooses no edge and no move
pub finds_plain : (A : Automaton) {op op' : Operation} {o : Option PremiseNumbers} {r : Found ℕ} (es ms : List ℕ) → op ≡ op'
    → ((s : PremiseNumbers) (ws : List ℕ) → step_edges A op' s ws ≡ ws) → ((s : PremiseNumbers) (ws : List ℕ) → step_moves A op' s ws ≡ ws)
    → premise_in r ≡ premise_of o → Finds A op o r es es ms ms
finds_plain A {op} {op'} {o} {r} es ms e f g h =
    let s : is_some (premise_in r) ≡ is_some o = ap is_some h ∙ is_some_map (λ s. first_or_zero s.premise) o in
    subst (λ (p : Operation). Finds A p o r es es ms ms) (sym e)
    (record { number = h; written = record { edges = answer_still es (λ y. f y es) s; moves = answer_still ms (λ y. g y ms) s } })

module _ (z : Table) (inner entries moves : List ℕ) (a : ℕ) (x : Result) (p' : ℕ) where
  abbrev A : Automaton
  A = automaton_of z inner entries moves

  -- the search for a move
  step_move : {op op' : Operation} (b : ℕ) {r : Found ℕ} {es₀ es ms₀ ms : List ℕ} → op ≡ op' → first_step A a x op' p' ≡ first_move A a x op' p' b
      → FindsMove A a x op' p' b r es₀ es ms₀ ms → FindsStep A a x op p' r es₀ es ms₀ ms
  step_move {op} {op'} b {r} {es₀} {es} {ms₀} {ms} e f h =
      subst (λ (q : Operation). FindsStep A a x q p' r es₀ es ms₀ ms) (sym e)
      (subst (λ (o : Option PremiseNumbers). Finds A op' o r es₀ es ms₀ ms) (sym f) h)

  module _ {op : Operation} {r : Found ℕ} {es₀ es ms₀ ms : List ℕ} where
    pub step_rewrite : {b : ℕ} → op ≡ rewrite b → FindsMove A a x (rewrite b) p' b r es₀ es ms₀ ms → FindsStep A a x op p' r es₀ es ms₀ ms
    unfolding first_step
    step_rewrite {b} e h = step_move b e refl h

    pub step_push1 : {b : ℕ} → op ≡ push1 b → FindsMove A a x (push1 b) p' b r es₀ es ms₀ ms → FindsStep A a x op p' r es₀ es ms₀ ms
    unfolding first_step
    step_push1 {b} e h = step_move b e refl h

    pub step_push2 : {b : ℕ} → op ≡ push2 b → FindsMove A a x (push2 b) p' b r es₀ es ms₀ ms → FindsStep A a x op p' r es₀ es ms₀ ms
    unfolding first_step
    step_push2 {b} e h = step_move b e refl h

    pub step_copy : op ≡ copy → FindsMove A a x op p' a r es₀ es ms₀ ms → FindsStep A a x op p' r es₀ es ms₀ ms
    unfolding first_step
    step_copy e h =
        step_move a refl (ap (λ (q : Operation). first_step A a x q p') e ∙ ap (λ (q : Operation). first_move A a x q p' a) (sym e)) h

  -- the three whose premise reads the symbol that they write
  pub step_reads : {w v : OperationWords} {b : ℕ} {r : Found ℕ} {es₀ es ms₀ ms : List ℕ} → w ≡ v → (v ≡ Rewrite b) ⊎ ((v ≡ Push1 b) ⊎ (v ≡ Push2 b))
      → FindsMove A a x (the_operation w) p' b r es₀ es ms₀ ms → FindsStep A a x (the_operation v) p' r es₀ es ms₀ ms
  unfolding first_step
  step_reads {w} {v} {b} {r} {es₀} {es} {ms₀} {ms} op_is is h =
      let S : OperationWords → Option PremiseNumbers = λ o. first_step A a x (the_operation o) p' in
      let M : OperationWords → Option PremiseNumbers = λ o. first_move A a x (the_operation o) p' b in
      let reads : S v ≡ M v = ⊎_elim (λ e. ap S e ∙ ap M (sym e)) (λ f. ⊎_elim (λ e. ap S e ∙ ap M (sym e)) (λ e. ap S e ∙ ap M (sym e)) f) is in
      step_move b refl reads (subst (λ (o : OperationWords). FindsMove A a x (the_operation o) p' b r es₀ es ms₀ ms) op_is h)

  entries_only : (c : Bool) → first_entry (table_of z entries []) x (entry_joins c) p' ≡ first_entry A x (entry_joins c) p'
  unfolding first_entry control_entries by_entry entry_set entry_at
  entries_only c = refl

  module _ {op : Operation} {r : Found ℕ} (es ms : List ℕ) where
    pub step_pop1 : op ≡ pop1 → premise_in r ≡ premise_of (first_entry (table_of z entries []) x (entry_joins false) p')
        → FindsStep A a x op p' r es es ms ms
    unfolding first_step step_edges step_moves writes_edges writes_moves edge_states read_states written_all
    step_pop1 e h = finds_plain A es ms e (λ s ws. refl) (λ s ws. refl)
        (h ∙ ap premise_of (entries_only false ∙ sym (ap (λ (q : Operation). first_step A a x q p') e)))

    pub step_collapse1 : op ≡ collapse1 → premise_in r ≡ premise_of (first_entry (table_of z entries []) x (entry_joins true) p')
        → FindsStep A a x op p' r es es ms ms
    unfolding first_step step_edges step_moves writes_edges writes_moves edge_states read_states written_all
    step_collapse1 e h = finds_plain A es ms e (λ s ws. refl) (λ s ws. refl)
        (h ∙ ap premise_of (entries_only true ∙ sym (ap (λ (q : Operation). first_step A a x q p') e)))

    pub step_pop2 : op ≡ pop2 → premise_in r ≡ premise_of (by_none x (single p') no_joins)
        → FindsStep A a x op p' r es es ms ms
    unfolding first_step step_edges step_moves writes_edges writes_moves edge_states read_states written_all
    step_pop2 e h = finds_plain A es ms e (λ s ws. refl) (λ s ws. refl)
        (h ∙ ap premise_of (sym (ap (λ (q : Operation). first_step A a x q p') e)))

    pub step_collapse2 : op ≡ collapse2 → premise_in r ≡ premise_of (by_none x 0 (record { order = 2; B = single p'; R = 0 }))
        → FindsStep A a x op p' r es es ms ms
    unfolding first_step step_edges step_moves writes_edges writes_moves edge_states read_states written_all
    step_collapse2 e h = finds_plain A es ms e (λ s ws. refl) (λ s ws. refl)
        (h ∙ ap premise_of (sym (ap (λ (q : Operation). first_step A a x q p') e)))

-- ---- by the rule

module _ (A : Automaton) (x : Result) (ρ : Rule) where
  pub rule_control : (ρ.control ≡ x.control → ⊥) → by_rule A x ρ ≡ none
  unfolding by_rule
  rule_control h = only_if_no _ _ (ap (λ (t : Bool). t && eqb ρ.symbol x.symbol) (ne_eqb ρ.control x.control h))

  pub rule_symbol : ρ.control ≡ x.control → (ρ.symbol ≡ x.symbol → ⊥) → by_rule A x ρ ≡ none
  unfolding by_rule
  rule_symbol e h = only_if_no _ _ (ap₂ ◌&&◌ (eq-eqb ρ.control x.control e) (ne_eqb ρ.symbol x.symbol h))

  pub rule_step : {r : Found ℕ} {es₀ es ms₀ ms : List ℕ} → ρ.control ≡ x.control → ρ.symbol ≡ x.symbol
      → FindsStep A ρ.symbol x ρ.operation ρ.next r es₀ es ms₀ ms → FindsByRule A x ρ r es₀ es ms₀ ms
  unfolding by_rule
  rule_step {r} {es₀} {es} {ms₀} {ms} e f h =
      subst (λ (o : Option PremiseNumbers). Finds A ρ.operation o r es₀ es ms₀ ms)
      (sym (only_if_yes _ _ (ap₂ ◌&&◌ (eq-eqb ρ.control x.control e) (eq-eqb ρ.symbol x.symbol f)))) h
