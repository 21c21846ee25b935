-- Replaying a trace ends as the papers say: accepted, at the first step that fails, or where cells are missing; and only one of these holds.
-- Assumes nothing.
use Prim.Native.Nat.{ℕ, zero, suc, ◌+◌, ◌≤◌, ◌<◌}
use Rattle.std.specs.Prelude.{true, false, ◌≡◌, length, take, drop, ltb, leb}
use Rattle.std.proofs.lemmas.Bool.{false≢true}
use Rattle.std.proofs.Math.Path.{refl, subst}
use Rattle.std.proofs.Common.{ap, sym, ◌∙◌, inl, inr, ⊎_elim, lt_irrefl, le_antisymm, length-drop}
use Rattle.std.proofs.Math.Option.{none, some, some-injective, none-ne-some}
use mathlib.Core.List.{List, [], ◌∷◌}
use Rattle.std.proofs.Math.Nat.{add-zero}
use native.Mathlib.Omega.{arith}
use Rattle.std.proofs.Math.ListN.{get_elem?}
use Rattle.std.proofs.Math.Seq.{take-length}
use borrow.Author.Tests.{ltb-true, ltb-false, leb-true, leb-false}
use Rattle.words.specs.Lists.Laws.{get_elem?_some}
use Rattle.words.specs.Laws.Tests.{by_test}
use Rattle.words.specs.Laws.Options.{by_option}
use Rattle.stacks.specs.Stack.{new_cells}
use Rattle.stacks.specs.System.{Configuration, Rule, step, Run, stay, go}
use Rattle.automata.specs.Automaton.{Automaton}
use Rattle.automata.specs.Acceptance.{in_target}
use Rattle.replies.specs.declared.Replayed.{Replayed}
use Rattle.replies.specs.declared.Replayed.TheVariants.{Refused, Accepted, FailsAt}
use Rattle.files.specs.Case.{own_of, rules_of}
use Rattle.files.specs.Start.{cells_of, configuration_at}
use Rattle.services.specs.Replay.{ReplayInput, replay_cells, Taken, taken, replayed, replay_run}
use Rattle.services.proofs.Replay.Laws.{taken_is, taken_by, replayed_arrived, replayed_missed, replayed_fails, replayed_short, replayed_goes}
use Rattle.guidance.specs.Halt.{cells_of_steps}
use Rattle.demands.specs.FullRun.{used}
use Rattle.demands.specs.Traces.{trace_of, cells_used, RunsTo, Applies, RealFault, StepFails, StepShort, CellsMissing}

-- ---- the elements left of a list

first_left : (l : List ℕ) (n : ℕ) {k : ℕ} {ks : List ℕ} → drop n l ≡ k ∷ ks → (get_elem? l n ≡ some k) × (drop (suc n) l ≡ ks)
first_left [] zero e = let z = ap length e in absurd (omega arith)
first_left [] (suc n) e = let z = ap length e in absurd (omega arith)
first_left (m ∷ l) zero e = (cc, cc)
first_left (m ∷ l) (suc n) e = first_left l n e

none_left : (l : List ℕ) (n : ℕ) → n ≤ length l → drop n l ≡ [] → n ≡ length l
none_left l n h e = let z = length-drop n l in let y : length (drop n l) ≡ 0 = ap length e in omega arith

-- ---- runs by the first numbers of a list

module _ (rules : List Rule) where
  -- what a rule that applies leaves is one configuration
  left_one : (k : ℕ) (c : Configuration) {d e : Configuration} {ρ σ : Rule} → get_elem? rules k ≡ some ρ → step ρ c ≡ some d → get_elem? rules k ≡ some σ → step σ c ≡ some e
      → d ≡ e
  left_one k c {d} {e} {ρ} {σ} i f j g =
      let z : ρ ≡ σ = some-injective ρ σ (sym i ∙ j) in
      some-injective d e (sym f ∙ ap (λ (r : Rule). step r c) z ∙ g)

  -- the same numbers lead to the same end
  run_one : {c d e : Configuration} {ns : List ℕ} → Run rules c ns d → Run rules c ns e → d ≡ e
  run_one stay stay = refl
  run_one {e = e} (go {c = c} {n = n} {ns = ns} ρ i f r) (go σ j g q) =
      run_one r (subst (λ (z : Configuration). Run rules z ns e) (sym (left_one n c i f j g)) q)

  -- one step more
  run_on : {c d e : Configuration} (l : List ℕ) (n : ℕ) {k : ℕ} (ρ : Rule) → get_elem? l n ≡ some k → get_elem? rules k ≡ some ρ → step ρ d ≡ some e
      → Run rules c (take n l) d → Run rules c (take (suc n) l) e
  run_on [] n {k} ρ h i f r = absurd (none-ne-some k h)
  run_on (m ∷ l) zero {k} ρ h i f stay = go ρ (ap (get_elem? rules) (some-injective m k h) ∙ i) f stay
  run_on (m ∷ l) (suc n) ρ h i f (go σ j g r) = go σ j g (run_on l n ρ h i f r)

  -- the step after the first n, where a run has more
  run_next : {c d e : Configuration} (l : List ℕ) (n m : ℕ) → n < m → m ≤ length l → Run rules c (take n l) d → Run rules c (take m l) e
      → (k : ℕ) × (ρ : Rule) × (b : Configuration) × (get_elem? l n ≡ some k) × (get_elem? rules k ≡ some ρ) × (step ρ d ≡ some b)
  run_next [] n m h t r q = absurd (omega arith)
  run_next (k ∷ l) n zero h t r q = absurd (omega arith)
  run_next (k ∷ l) zero (suc m) h t stay (go {d = b} ρ i f q) = (k, ρ, b, refl, i, f)
  run_next {c = c} {d = d} (k ∷ l) (suc n) (suc m) h t (go ρ i f r) (go σ j g q) =
      run_next l n m (omega arith) (omega arith) (subst (λ (z : Configuration). Run rules z (take n l) d) (left_one k c i f j g) r) q

  -- ---- their cells

  cells_on : (l : List ℕ) (n : ℕ) {k : ℕ} {ρ : Rule} → get_elem? l n ≡ some k → get_elem? rules k ≡ some ρ
      → cells_of_steps rules (take (suc n) l) ≡ cells_of_steps rules (take n l) + new_cells ρ.operation
  unfolding cells_of_steps
  cells_on [] n {k} h i = absurd (none-ne-some k h)
  cells_on (m ∷ l) zero {k} h i = rw (cells_of_steps, some-injective m k h, i) (omega arith)
  cells_on (m ∷ l) (suc n) {k} {ρ} h i =
      let z : cells_of_steps rules (take (suc n) l) ≡ cells_of_steps rules (take n l) + new_cells ρ.operation = cells_on l n h i in
      omega arith

  cells_rise : (l : List ℕ) (n m : ℕ) → n ≤ m → cells_of_steps rules (take n l) ≤ cells_of_steps rules (take m l)
  unfolding cells_of_steps
  cells_rise l zero m h = omega arith
  cells_rise l (suc n) zero h = absurd (omega arith)
  cells_rise [] (suc n) (suc m) h = omega arith
  cells_rise (k ∷ l) (suc n) (suc m) h = let z : cells_of_steps rules (take n l) ≤ cells_of_steps rules (take m l) = cells_rise l n m (omega arith) in omega arith

-- ---- the trace of x

module _ (x : ReplayInput) where
  abbrev rules : List Rule
  rules = rules_of x.case

  abbrev own : Automaton
  own = own_of x.case

  -- before the first step
  used_none : cells_used x 0 ≡ length (cells_of x.start)
  unfolding used cells_of_steps
  used_none = add-zero (length (cells_of x.start))

  begins : length (cells_of x.start) ≤ replay_cells x → RunsTo x 0 (configuration_at x.start x.number)
  begins h = record { steps_there = omega arith; run = stay; cells_fit = rw used_none h }

  -- the cells of a step that applies
  used_on : {n : ℕ} {d : Configuration} (a : Applies x n d) → cells_used x (suc n) ≡ cells_used x n + new_cells a.rule.operation
  unfolding used
  used_on {n} a = let z = cells_on rules (trace_of x) n a.number_is a.rule_is in omega arith

  -- a step that applies and whose cells fit
  steps_on : {n : ℕ} {d : Configuration} → RunsTo x n d → (a : Applies x n d) → cells_used x (suc n) ≤ replay_cells x → RunsTo x (suc n) a.left
  steps_on {n} r a h =
      record {
        steps_there = (get_elem?_some (trace_of x) n a.number_is).0;
        run = run_on rules (trace_of x) n a.rule a.number_is a.rule_is a.leaves r.run;
        cells_fit = h;
      }

  -- ---- how replaying ends

  pub data Ends : Replayed → Type 0 where
    accepts : RealFault x → Ends Accepted
    fails_at : {n : ℕ} → StepFails x n → Ends (FailsAt n)
    is_short : StepShort x → Ends (Refused 11)

  -- at the end of the trace
  arrives : {n : ℕ} {d : Configuration} → drop n (trace_of x) ≡ [] → RunsTo x n d → in_target own d ≡ true → RealFault x
  arrives {n} {d} e r t =
      let z : n ≡ length (trace_of x) = none_left (trace_of x) n r.steps_there e in
      let w : RunsTo x (length (trace_of x)) d = subst (λ (m : ℕ). RunsTo x m d) z r in
      record { end = d; run = rw (take-length (trace_of x)) at w.run; in_target_holds = t; cells_suffice = w.cells_fit }

  misses : {n : ℕ} {d : Configuration} → drop n (trace_of x) ≡ [] → RunsTo x n d → in_target own d ≡ false → StepFails x n
  misses {n} {d} e r t = record { at = d; runs = r; fails = inr (none_left (trace_of x) n r.steps_there e, t) }

  -- at the step by rule k
  module _ {n : ℕ} {d : Configuration} (k : ℕ) (r : RunsTo x n d) (h : get_elem? (trace_of x) n ≡ some k) where
    untaken_fails : taken rules k d ≡ none → StepFails x n
    untaken_fails o =
        record {
          at = d;
          runs = r;
          fails = inl (
            (get_elem?_some (trace_of x) n h).0,
            λ a.
                let e : k ≡ a.number = some-injective k a.number (sym h ∙ a.number_is) in
                none-ne-some _ (sym o ∙ taken_is rules k d (ap (get_elem? rules) e ∙ a.rule_is) a.leaves),
          );
        }

    taken_applies : {s : Taken} → taken rules k d ≡ some s
        → (a : Applies x n d) × (a.left ≡ s.to) × (cells_used x (suc n) ≡ cells_used x n + s.cells)
    taken_applies {s} o =
        let b = taken_by rules k d o in
        let a : Applies x n d = record { number = k; rule = b.rule; left = s.to; number_is = h; rule_is = b.rule_is; leaves = b.leaves } in
        (a, refl, used_on a ∙ ap (λ (m : ℕ). cells_used x n + m) (sym b.cells_are))

  -- after n steps, with these rule numbers left
  ends_from : (ks : List ℕ) (n : ℕ) (d : Configuration) → drop n (trace_of x) ≡ ks → RunsTo x n d
      → Ends (replayed rules own (replay_cells x) n (cells_used x n) d ks)
  ends_from [] n d e r = by_test (in_target own d)
      (λ t. subst Ends (sym (replayed_arrived rules own (replay_cells x) n (cells_used x n) d t)) (accepts (arrives e r t)))
      (λ t. subst Ends (sym (replayed_missed rules own (replay_cells x) n (cells_used x n) d t)) (fails_at (misses e r t)))
  ends_from (k ∷ ks) n d e r =
      let (h, g) = first_left (trace_of x) n e in
      by_option (taken rules k d)
      (λ o. subst Ends (sym (replayed_fails rules own (replay_cells x) n (cells_used x n) d k ks o)) (fails_at (untaken_fails k r h o)))
      (λ s o.
      let (a, f, u) = taken_applies k r h o in
      by_test (leb (cells_used x n + s.cells) (replay_cells x))
      (λ t.
      let l : cells_used x (suc n) ≤ replay_cells x = rw u (leb-true _ _ t) in
      let q : RunsTo x (suc n) s.to = subst (RunsTo x (suc n)) f (steps_on r a l) in
      subst Ends (ap (λ (m : ℕ). replayed rules own (replay_cells x) (suc n) m s.to ks) u ∙ sym (replayed_goes rules own (replay_cells x) n (cells_used x n) d k ks o (leb-true _ _ t)))
      (ends_from ks (suc n) s.to g q))
      (λ t.
      let l : replay_cells x < cells_used x (suc n) = rw u (leb-false _ _ t) in
      subst Ends (sym (replayed_short rules own (replay_cells x) n (cells_used x n) d k ks o (leb-false _ _ t)))
      (is_short (record { steps = n; at = d; runs = r; applies = a; short = l }))))

  -- the replay of the whole trace, where the start file's cells fit
  pub replay_ends : length (cells_of x.start) ≤ replay_cells x → Ends (replay_run x)
  unfolding replay_run
  replay_ends h =
      subst (λ (m : ℕ). Ends (replayed rules own (replay_cells x) 0 m (configuration_at x.start x.number) (trace_of x))) used_none
      (ends_from (trace_of x) 0 (configuration_at x.start x.number) refl (begins h))

  -- ---- only one end

  -- a run that goes further has a step that applies
  goes_on : {n m : ℕ} {d e : Configuration} → RunsTo x n d → RunsTo x m e → n < m → Applies x n d
  goes_on {n} {m} r q h =
      let (k, ρ, b, i, j, f) = run_next rules (trace_of x) n m h q.steps_there r.run q.run in
      record { number = k; rule = ρ; left = b; number_is = i; rule_is = j; leaves = f }

  applies_before : {n : ℕ} {d : Configuration} → Applies x n d → n < length (trace_of x)
  applies_before {n} a = (get_elem?_some (trace_of x) n a.number_is).0

  -- where a step fails, none applies
  fails_applies_not : {n : ℕ} (s : StepFails x n) → Applies x n s.at → ⊥
  fails_applies_not s a = let l = applies_before a in ⊎_elim (λ p. p.1 a) (λ p. let z = p.0 in absurd (omega arith)) s.fails

  pub fails_once : {n m : ℕ} → StepFails x n → StepFails x m → n ≡ m
  fails_once {n} {m} s t =
      by_test (ltb n m)
      (λ l. absurd (fails_applies_not s (goes_on s.runs t.runs (ltb-true n m l))))
      (λ l.
      by_test (ltb m n)
      (λ k. absurd (fails_applies_not t (goes_on t.runs s.runs (ltb-true m n k))))
      (λ k. le_antisymm (ltb-false m n k) (ltb-false n m l)))

  -- a fault is a run of the whole trace
  fault_runs : (f : RealFault x) → RunsTo x (length (trace_of x)) f.end
  fault_runs f = record { steps_there = omega arith; run = rw (take-length (trace_of x)) f.run; cells_fit = f.cells_suffice }

  pub fault_fails_not : RealFault x → {n : ℕ} → StepFails x n → ⊥
  fault_fails_not f {n} s =
      ⊎_elim
      (λ p. p.1 (goes_on s.runs (fault_runs f) p.0))
      (λ p.
      let r : RunsTo x (length (trace_of x)) s.at = subst (λ (m : ℕ). RunsTo x m s.at) p.0 s.runs in
      false≢true (sym p.1 ∙ ap (in_target own) (run_one rules r.run (fault_runs f).run) ∙ f.in_target_holds))
      s.fails

  -- ---- where cells are missing

  -- no run that fits goes past the step that is short,
  short_last : (s : StepShort x) {n : ℕ} {d : Configuration} → RunsTo x n d → n ≤ s.steps
  unfolding used
  short_last s {n} r =
      by_test (ltb s.steps n)
      (λ l. let z = cells_rise rules (trace_of x) (suc s.steps) n (ltb-true _ _ l) in let a = s.short in let b = r.cells_fit in absurd (omega arith))
      (λ l. ltb-false _ _ l)

  -- and wherever it ends, a step applies
  short_applies : (s : StepShort x) {n : ℕ} {d : Configuration} → RunsTo x n d → Applies x n d
  short_applies s {n} {d} r =
      by_test (ltb n s.steps)
      (λ l. goes_on r s.runs (ltb-true _ _ l))
      (λ l.
      let e : n ≡ s.steps = le_antisymm (short_last s r) (ltb-false _ _ l) in
      let q : RunsTo x s.steps d = subst (λ (m : ℕ). RunsTo x m d) e r in
      subst (λ (m : ℕ). Applies x m d) (sym e) (subst (Applies x s.steps) (run_one rules s.runs.run q.run) s.applies))

  -- where the start file's cells do not fit, no run fits
  start_fits : {n : ℕ} {d : Configuration} → RunsTo x n d → replay_cells x < length (cells_of x.start) → ⊥
  unfolding used
  start_fits r l = let b = r.cells_fit in absurd (omega arith)

  pub fault_fits : RealFault x → CellsMissing x → ⊥
  fault_fits f (inl l) = start_fits (fault_runs f) l
  fault_fits f (inr s) = lt_irrefl _ (applies_before (short_applies s (fault_runs f)))

  pub fails_fits : {n : ℕ} → StepFails x n → CellsMissing x → ⊥
  fails_fits t (inl l) = start_fits t.runs l
  fails_fits t (inr s) = fails_applies_not t (short_applies s t.runs)
