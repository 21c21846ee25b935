-- Results are monotone: where C contains A, each result of rules from A has its like among the results of these and more rules from C.
-- Assumes nothing.
use Rattle.std.specs.Prelude.{ℕ, ◌+◌, ◌≡◌, refl}
use Rattle.std.proofs.Common.{ap, sym, ◌∙◌}
use Rattle.std.proofs.Math.Option.{some}
use mathlib.Core.List.{List, [], ◌∷◌, Memᴰ}
use Rattle.std.proofs.Math.ListN.{get_elem?}
use Rattle.words.specs.Sets.{join, single}
use Rattle.words.specs.Lists.Laws.{get_elem?_in, get_elem?_below, in_get_or}
use Rattle.stacks.specs.Stack.{Operation, rewrite, push1, push2, copy, pop1, pop2, collapse1, collapse2}
use Rattle.stacks.specs.System.{Rule}
use Rattle.automata.specs.Automaton.{Automaton, Move, move_at}
use Rattle.automata.specs.Derivation.{Result, Derivation, derivations, Joins, joins_of, join_all, edge_sets}
use Rattle.automata.specs.Derivation.Joining.{Fits}
use Rattle.automata.proofs.Derivation.Laws.{conclusion, Concludes, concludes, ByRewrite, ByPush, ByCopy, ByEntry, Says, derivations_out, derivations_in}
use Rattle.automata.specs.Facts.{TableFacts, Once}
use Rattle.rounds.specs.Contains.{Matched, Same, SameIn, SameMove, Contains}
use Rattle.rounds.specs.Contains.Laws.{matched_empty, matched_single, matched_map, matched_equal, equal_matched}
use Rattle.rounds.specs.Joining.{SameJoins, joins_of_same, joins_same, same_in_fits}
use Rattle.rounds.specs.Readings.{entry_same, entry_move_same, reading_same, edges_same}

pub record SameResult (A C : Automaton) (x y : Result) : Type 0 where
  pub control_same : y.control ≡ x.control
  pub set_same : y.S ≡ x.S
  pub symbol_same : y.symbol ≡ x.symbol
  pub order_same : y.order ≡ x.order
  pub annotation_same : Matched (SameIn A C x.order) x.B y.B
  pub rest_same : Matched (Same A C) x.R y.R

module _ {A C : Automaton} (c : Contains A C) {P : ℕ} (F : TableFacts P A) (onceC : Once C.entries) (n : ℕ) (ρ : Rule) where
  -- a derivation by rule n that has X, with the like of result x
  record Like (X : Derivation → Type 0) (x : Result) : Type 0 where
    derivation : Derivation
    rule_is : derivation.rule ≡ n
    says : X derivation
    same : SameResult A C x derivation.result

  concluded_same : {premise es ms : List ℕ} {S : ℕ} {j : Joins} {d : Derivation} (T : ℕ) {k : Joins} → Concludes ρ premise es ms S j d → SameJoins A C j k → T ≡ S
      → SameResult A C d.result (record { control = ρ.control; S = T; symbol = ρ.symbol; order = k.order; B = k.B; R = k.R })
  concluded_same T h s e =
      record {
        control_same = sym h.control_is;
        set_same = e ∙ sym h.set_is;
        symbol_same = sym h.symbol_is;
        order_same = s.order_same ∙ sym h.order_is;
        annotation_same = rw (h.order_is, h.B-is) s.annotation_same;
        rest_same = rw h.R-is s.rest_same;
      }

  rewrite_same : (b : ℕ) {d : Derivation} → ByRewrite A ρ b d → Like (ByRewrite C ρ b) d.result
  rewrite_same b {d} h =
      let (i, p, t) = entry_move_same c h.premise in
      record {
        derivation = conclusion n ρ (i ∷ []) [] [] h.S (joins_of (move_at C i));
        rule_is = refl;
        says = record { move = i; S = h.S; premise = p; concluded = concludes n ρ (i ∷ []) [] [] h.S (joins_of (move_at C i)) };
        same = concluded_same h.S h.concluded (joins_of_same A C t) refl;
      }

  -- a push of order k, where the joins begin alike and the sets are equal
  push_same : (k b : ℕ) (start : Move → Joins) (set : ℕ → Move → ℕ)
      → ((m m' : Move) → SameMove A C m m' → Fits k m.order → SameJoins A C (start m) (start m'))
      → ((S : ℕ) (m m' : Move) → SameMove A C m m' → Fits k m.order → set S m' ≡ set S m)
      → {d : Derivation} → ByPush A ρ k b start set d → Like (ByPush C ρ k b start set) d.result
  unfolding join_all
  push_same k b start set starts sets {d} h =
      let (i, p, t) = entry_move_same c h.premise in
      let (ns, qs, ms) = reading_same c F.entry_once onceC t.rest_same h.reading in
      let (j, e, s) = joins_same A C (starts (move_at A h.move) (move_at C i) t h.order_fits_holds) ms h.joined in
      record {
        derivation = conclusion n ρ (i ∷ []) [] ns (set h.S (move_at C i)) j;
        rule_is = refl;
        says = record {
          move = i;
          S = h.S;
          premise = p;
          order_fits_holds = rw t.order_same h.order_fits_holds;
          reading = qs;
          joins = j;
          joined = e;
          concluded = concludes n ρ (i ∷ []) [] ns (set h.S (move_at C i)) j;
        };
        same = concluded_same (set h.S (move_at C i)) h.concluded s (sets h.S (move_at A h.move) (move_at C i) t h.order_fits_holds);
      }

  copy_same : {d : Derivation} → ByCopy A ρ d → Like (ByCopy C ρ) d.result
  unfolding join_all
  copy_same {d} h =
      let (i, p, t) = entry_move_same c h.premise in
      let (es, cs, m, z) = edges_same c F h.chosen in
      let (ns, qs, ms) = reading_same c F.entry_once onceC m h.reading in
      let (j, e, s) = joins_same A C (joins_of_same A C t) ms h.joined in
      record {
        derivation = conclusion n ρ (i ∷ []) es ns (edge_sets C es) j;
        rule_is = refl;
        says = record {
          move = i;
          S = h.S;
          premise = p;
          chosen = cs;
          reading = qs;
          joins = j;
          joined = e;
          concluded = concludes n ρ (i ∷ []) es ns (edge_sets C es) j;
        };
        same = concluded_same (edge_sets C es) h.concluded s z;
      }

  entry_result_lem : (joins : ℕ → Joins) → ((r s : ℕ) → Same A C r s → SameJoins A C (joins r) (joins s)) → {d : Derivation} → ByEntry A ρ joins d
      → Like (ByEntry C ρ joins) d.result
  entry_result_lem joins f {d} h =
      let (e, k, t) = entry_same c h.premise in
      record {
        derivation = conclusion n ρ (e ∷ []) [] [] h.S (joins (C.J + e));
        rule_is = refl;
        says = record { entry = e; S = h.S; premise = k; concluded = concludes n ρ (e ∷ []) [] [] h.S (joins (C.J + e)) };
        same = concluded_same h.S h.concluded (f (A.J + h.entry) (C.J + e) t) refl;
      }

  -- pop 2 and collapse 2, which need nothing of the automaton
  plain_same : (S : ℕ) (j : Joins) → SameJoins A C j j → {d : Derivation} → Concludes ρ [] [] [] S j d → Like (Concludes ρ [] [] [] S j) d.result
  plain_same S j s {d} h =
      record {
        derivation = conclusion n ρ [] [] [] S j;
        rule_is = refl;
        says = concludes n ρ [] [] [] S j;
        same = concluded_same S h s refl;
      }

  -- ---- each operation

  none_same : (r s : ℕ) → Matched (Same A C) r s → SameJoins A C (record { order = 0; B = 0; R = r }) (record { order = 0; B = 0; R = s })
  none_same r s m = record { order_same = refl; annotation_same = matched_empty (SameIn A C 0); rest_same = m }

  -- an annotation set that is empty or of order o
  annotation_at_lem : (o : ℕ) {m m' : Move} → SameMove A C m m' → Fits o m.order → Matched (SameIn A C o) m.B m'.B
  annotation_at_lem o {m} t f = matched_map (λ x y z. same_in_fits A C o m.order x y f z) t.annotation_same

  says_same : (op : Operation) (d : Derivation) → Says A ρ op d → Like (Says C ρ op) d.result
  says_same (rewrite b) d h = rewrite_same b h
  says_same (push1 b) d h = push_same 1 b _ _ (λ m m' t f. none_same m.B m'.B (annotation_at_lem 1 t f)) (λ S m m' t f. refl) h
  says_same (push2 b) d h =
      push_same 2 b _ _ (λ m m' t f. none_same 0 0 (matched_empty (Same A C))) (λ S m m' t f. ap (join S) (sym (matched_equal (annotation_at_lem 2 t f)))) h
  says_same copy d h = copy_same h
  says_same pop1 d h = entry_result_lem _ (λ r s t. none_same (single r) (single s) (matched_single (Same A C) r s t)) h
  says_same pop2 d h = plain_same _ _ (none_same 0 0 (matched_empty (Same A C))) h
  says_same collapse1 d h =
      entry_result_lem _ (λ r s t. record { order_same = refl; annotation_same = matched_single (Same A C) r s t; rest_same = matched_empty (Same A C) }) h
  says_same collapse2 d h =
      plain_same _ _ (record { order_same = refl; annotation_same = equal_matched refl; rest_same = matched_empty (Same A C) }) h

-- ---- the law

pub results_same : {A C : Automaton} → Contains A C → {P : ℕ} → TableFacts P A → Once C.entries → {rules more : List Rule}
    → ((ρ : Rule) → Memᴰ ρ rules → Memᴰ ρ more) → {d : Derivation} → Memᴰ d (derivations A rules)
    → (f : Derivation) × Memᴰ f (derivations C more) × SameResult A C d.result f.result
results_same {A} {C} c F once {rules} {more} sub {d} j =
    let h = derivations_out A rules j in
    let (n, l, e) = in_get_or (sub h.rule (get_elem?_in rules d.rule h.numbered)) in
    let x = says_same c F once n h.rule h.rule.operation d h.says in (
      x.derivation,
      derivations_in C more (record {
        rule = h.rule;
        numbered = ap (get_elem? more) x.rule_is ∙ get_elem?_below more n h.rule l ∙ ap some (e h.rule);
        says = x.says;
      }),
      x.same,
    )
