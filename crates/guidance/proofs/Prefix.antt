-- The laws of halts: what guide writes for c cells and t trace words is a prefix of the full run, and it arrives exactly if c and t suffice.
-- Assumes nothing.
use Prim.Native.Nat.{ℕ, zero, suc, ◌+◌, ◌-◌, ◌<◌, ◌≤◌}
use Rattle.std.specs.Prelude.{true, ◌≡◌, take, leb}
use Rattle.std.proofs.lemmas.Bool.{false≢true}
use Rattle.std.proofs.Math.Path.{refl, ap, sym}
use Rattle.std.proofs.Common.{◌∙◌, subst, add-zero, zero-add, not-suc-le-zero, le_of_suc-le-suc}
use Rattle.std.proofs.Math.Option.{some, some-injective}
use mathlib.Core.List.{List, [], ◌∷◌, ◌++◌, append-nil, append_assoc}
use native.Mathlib.Omega.{arith}
use Rattle.std.proofs.Math.Arith.{lt_of_le-ne}
use Rattle.std.proofs.Math.ListN.{length, length-append}
use borrow.Author.Tests.{leb-true, leb-false}
use Rattle.words.specs.Laws.Tests.{by_test}
use Rattle.stacks.specs.System.{Rule}
use Rattle.automata.specs.Saturation.{Saturated}
use Rattle.replies.specs.declared.Counts.{Counts}
use Rattle.replies.specs.declared.Halt.TheVariants.{Arrived}
use Rattle.replies.specs.declared.Reply.TheVariants.{Walked}
use Rattle.walks.specs.Guide.{Walk, arrived, to, next, walk_after, trace_after, Report, counts, walked_by, guided}
use Rattle.guidance.specs.Halt.{Reason, arrival, trace_full, cells_short, halt_by, is_arrival}
use Rattle.guidance.specs.Run.{to_arrived, to_walk, by_next, walk_after_to, trace_after_to, run_first, run_cells, run_join, run_split, trace_take}
use Rattle.guidance.specs.Prefix.{ArrivesAfter, Halts, has_arrived, is_full, is_short, FirstHalt, answer_at, not_stuck, arrives_onward, arrives_last}

arrival_only : (r : Reason) (z : Counts) → is_arrival (Walked (halt_by r z)) ≡ true → r ≡ arrival
unfolding is_arrival halt_by
arrival_only arrival z e = refl
arrival_only trace_full z e = absurd (false≢true e)
arrival_only cells_short z e = absurd (false≢true e)

module _ (rules : List Rule) (T : Saturated) where
  -- ---- the first halt

  -- guide halts at once
  halt_here : (c t : ℕ) (w : Walk) (r : Reason) → Halts rules T c t 0 w r → FirstHalt rules T c t w
  unfolding walk_after
  halt_here c t w r h = record { steps = 0; end = w; reason = r; run_is = refl; halts = h; least = λ k u q l e x. absurd (not-suc-le-zero l) }

  here_answer : (c t : ℕ) (w : Walk) (r : Reason) (h : Halts rules T c t 0 w r) (trace : List ℕ)
      → walked_by (halt_by r (counts trace w)) trace ≡ answer_at rules T trace (halt_here c t w r h)
  unfolding answer_at halt_here counts trace_after
  here_answer c t w r h trace = rw (add-zero (length trace), append-nil trace)

  halts_later : {c t m : ℕ} {v : Walk} {r : Reason} → Halts rules T c t m v r → Halts rules T c (suc t) (suc m) v r
  halts_later (has_arrived e) = has_arrived e
  halts_later (is_full n u e q) = is_full n u e (ap suc q)
  halts_later (is_short n u e q l) = is_short n u e (λ z. q (omega arith)) l

  halts_sooner : {c t m : ℕ} {v : Walk} {r : Reason} → Halts rules T c (suc t) (suc m) v r → Halts rules T c t m v r
  halts_sooner (has_arrived e) = has_arrived e
  halts_sooner (is_full n u e q) = is_full n u e (omega arith)
  halts_sooner (is_short n u e q l) = is_short n u e (λ z. q (ap suc z)) l

  -- a step that leaves enough cells, with a trace word left, is no halt
  goes_on : {c t n : ℕ} {w v u : Walk} {r : Reason} → next rules T w ≡ to n v → length v.cells ≤ c → w ≡ u → Halts rules T c (suc t) 0 u r → ⊥
  goes_on {c} {t} {n} {w} {v} {u} e l q x = go x
    where
      f : next rules T u ≡ to n v
      f = ap (next rules T) (sym q) ∙ e

      go : {r : Reason} → Halts rules T c (suc t) 0 u r → ⊥
      go (has_arrived h) = to_arrived (sym f ∙ h)
      go (is_full m y h z) = absurd (omega arith)
      go (is_short m y h z k) =
          let g : length y.cells ≡ length v.cells = ap (λ (x : Walk). length x.cells) (to_walk (sym h ∙ f)) in
          absurd (omega arith)

  halt_later : {c t n : ℕ} (w : Walk) {v : Walk} → next rules T w ≡ to n v → length v.cells ≤ c → FirstHalt rules T c t v → FirstHalt rules T c (suc t) w
  unfolding walk_after
  halt_later {c} {t} {n} w {v} e l x =
      record {
        steps = suc x.steps;
        end = x.end;
        reason = x.reason;
        run_is = walk_after_to rules T w e x.steps ∙ x.run_is;
        halts = halts_later x.halts;
        least = before;
      }
    where
      before : (k : ℕ) (u : Walk) (r : Reason) → k < suc x.steps → walk_after rules T k w ≡ some u → Halts rules T c (suc t) k u r → ⊥
      before zero u r h q y = goes_on e l (some-injective w u q) y
      before (suc k) u r h q y = x.least k u r (le_of_suc-le-suc h) (sym (walk_after_to rules T w e k) ∙ q) (halts_sooner y)

  later_answer : {c t n : ℕ} (w : Walk) {v : Walk} (e : next rules T w ≡ to n v) (l : length v.cells ≤ c) (x : FirstHalt rules T c t v) (trace : List ℕ)
      → answer_at rules T (trace ++ (n ∷ [])) x ≡ answer_at rules T trace (halt_later w e l x)
  unfolding answer_at halt_later
  later_answer {n = n} w {v} e l x trace =
      let p : length (trace ++ (n ∷ [])) ≡ length trace + 1 = length-append trace (n ∷ []) in
      let q : length (trace ++ (n ∷ [])) + x.steps ≡ length trace + suc x.steps = omega arith in
      rw (q, append_assoc trace (n ∷ []) (trace_after rules T x.steps v), trace_after_to rules T w e x.steps)

  pub guided_halts : (c t : ℕ) (trace : List ℕ) (M : ℕ) (w : Walk) {v : Walk} → ArrivesAfter rules T M w v
      → (x : FirstHalt rules T c t w) × (guided rules T c t trace w ≡ answer_at rules T trace x)
  unfolding guided halt_by
  guided_halts c zero trace M w a = by_next rules T w
      (λ e. (halt_here c 0 w arrival (has_arrived e), rw (guided, e) (here_answer c 0 w arrival (has_arrived e) trace)))
      (λ n v e. (halt_here c 0 w trace_full (is_full n v e refl), rw (guided, e) (here_answer c 0 w trace_full (is_full n v e refl) trace)))
      (λ e. absurd (not_stuck rules T M w a e))
  guided_halts c (suc t) trace M w a = by_next rules T w
      (λ e. (halt_here c (suc t) w arrival (has_arrived e), rw (guided, e) (here_answer c (suc t) w arrival (has_arrived e) trace)))
      (λ n v e. by_test (leb (length v.cells) c)
      (λ b.
      let l = leb-true (length v.cells) c b in
      let r = arrives_onward rules T M w a e in
      let y = guided_halts c t (trace ++ (n ∷ [])) r.0 v r.2 in
      (halt_later w e l y.0, rw (guided, e, b) (y.1 ∙ later_answer w e l y.0 trace)))
      (λ b.
      let h : Halts rules T c (suc t) 0 w cells_short = is_short n v e (λ z. omega arith) (leb-false (length v.cells) c b) in
      (halt_here c (suc t) w cells_short h, rw (guided, e, b) (here_answer c (suc t) w cells_short h trace))))
      (λ e. absurd (not_stuck rules T M w a e))

  -- ---- the theorem

  -- "The guide writes the full run's first m steps, m being the least number where the run has arrived, m = t, or step m + 1 would bring
  -- the cells used above c, and it answers the first of these that holds, in that order."
  pub guided_prefix : (c t M : ℕ) (w : Walk) {v : Walk} → ArrivesAfter rules T M w v
      → (x : FirstHalt rules T c t w)
      × (x.steps ≤ M)
      × (guided rules T c t [] w
      ≡ walked_by (halt_by x.reason (record { steps = x.steps; cells = length x.end.cells })) (take x.steps (trace_after rules T M w)))
  unfolding answer_at
  guided_prefix c t M w a =
      let r = guided_halts c t [] M w a in
      let x = r.0 in
      let l = arrives_last rules T M w a x.steps x.run_is in
      (x, l, r.1 ∙ rw (zero-add x.steps, trace_take rules T x.steps M w l))

  -- ---- arrival

  module _ {c t M : ℕ} {w v : Walk} (a : ArrivesAfter rules T M w v) (x : FirstHalt rules T c t w) where
    -- a walk that has made all steps of the run has arrived at its end, and the other way round
    all_steps : x.steps ≡ M → x.end ≡ v
    all_steps q = some-injective x.end v (sym x.run_is ∙ ap (λ (i : ℕ). walk_after rules T i w) q ∙ a.run_is)

    whole_run : next rules T x.end ≡ arrived → x.steps ≡ M
    whole_run e =
        let l : x.steps ≤ M = arrives_last rules T M w a x.steps x.run_is in
        let k : M ≤ x.steps = arrives_last rules T x.steps w (record { run_is = x.run_is; arrives = e }) M a.run_is in
        omega arith

    -- a walk that goes on after its halt has not made all steps, so the run has the cells of its next step
    next_cells : {n : ℕ} {u : Walk} → next rules T x.end ≡ to n u → (x.steps < M) × (length u.cells ≤ length v.cells)
    next_cells {n} {u} e =
        let l : x.steps ≤ M = arrives_last rules T M w a x.steps x.run_is in
        let d : x.steps ≡ M → ⊥ = λ q. to_arrived (sym e ∙ ap (next rules T) (all_steps q) ∙ a.arrives) in
        let k : x.steps < M = lt_of_le-ne l d in
        let j : ℕ = M - suc x.steps in
        let f : x.steps + suc j ≡ M = omega arith in
        let r : walk_after rules T (suc j) x.end ≡ some v =
        sym (run_join rules T x.steps (suc j) w x.run_is) ∙ ap (λ (i : ℕ). walk_after rules T i w) f ∙ a.run_is in
        (k, run_cells rules T j u (sym (walk_after_to rules T x.end e j) ∙ r))

    -- enough cells and trace words
    pub halts_whole : M ≤ t → length v.cells ≤ c → (x.reason ≡ arrival) × (x.steps ≡ M) × (x.end ≡ v)
    halts_whole l k = go x.halts
      where
        go : {r : Reason} → Halts rules T c t x.steps x.end r → (r ≡ arrival) × (x.steps ≡ M) × (x.end ≡ v)
        go (has_arrived e) = let q = whole_run e in (refl, q, all_steps q)
        go (is_full n u e q) = let r : x.steps < M = (next_cells e).0 in absurd (omega arith)
        go (is_short n u e q h) = let r : length u.cells ≤ length v.cells = (next_cells e).1 in absurd (omega arith)

    steps_within : x.steps ≤ t
    steps_within = by_test (leb x.steps t) (λ e. leb-true x.steps t e) (λ e.
        let h : t < x.steps = leb-false x.steps t e in
        let j : ℕ = x.steps - suc t in
        let f : t + suc j ≡ x.steps = omega arith in
        let r = run_split rules T t (suc j) w (ap (λ (i : ℕ). walk_after rules T i w) f ∙ x.run_is) in
        let q = run_first rules T r.0 j r.2 in
        absurd (x.least t r.0 trace_full h r.1 (is_full q.0 q.1 q.2 refl)))

    -- a walk that halts by arrival had enough
    pub whole_fits : length w.cells ≤ c → x.reason ≡ arrival → (M ≤ t) × (length v.cells ≤ c)
    unfolding walk_after
    whole_fits k e =
        let q = whole_run (arrived_end (subst (Halts rules T c t x.steps x.end) e x.halts)) in
        let l : x.steps ≤ t = steps_within in
        (omega arith, cells_fit M refl q)
      where
        arrived_end : Halts rules T c t x.steps x.end arrival → next rules T x.end ≡ arrived
        arrived_end (has_arrived h) = h

        cells_fit : (m : ℕ) → M ≡ m → x.steps ≡ M → length v.cells ≤ c
        cells_fit zero f q =
            let z : w ≡ v = some-injective w v (ap (λ (i : ℕ). walk_after rules T i w) (sym f) ∙ a.run_is) in
            subst (λ (y : Walk). length y.cells ≤ c) z k
        cells_fit (suc m) f q =
            let g : m + 1 ≡ M = omega arith in
            let r = run_split rules T m 1 w (ap (λ (i : ℕ). walk_after rules T i w) g ∙ a.run_is) in
            let y = run_first rules T r.0 0 r.2 in
            let z : length y.1.cells ≡ length v.cells = ap (λ (u : Walk). length u.cells) (some-injective y.1 v y.3) in
            let l : x.steps ≤ t = steps_within in
            by_test (leb (length v.cells) c) (λ b. leb-true (length v.cells) c b) (λ b.
            let h : c < length v.cells = leb-false (length v.cells) c b in
            absurd (x.least m r.0 cells_short (omega arith) r.1 (is_short y.0 y.1 y.2 (λ p. omega arith) (omega arith))))

  -- The reply is an arrival exactly if the trace has a word for each step of the full run and the cells of its end are at most c.
  pub guided_arrives : (c t M : ℕ) (w : Walk) {v : Walk} → ArrivesAfter rules T M w v → M ≤ t → length v.cells ≤ c
      → guided rules T c t [] w ≡ walked_by (Arrived (record { steps = M; cells = length v.cells })) (trace_after rules T M w)
  unfolding halt_by
  guided_arrives c t M w {v} a l k =
      let r = guided_prefix c t M w a in
      let h = halts_whole a r.0 l k in
      r.2 ∙ rw (h.0, h.1, h.2, sym (trace_take rules T M M w (omega arith)))

  pub arrival_fits : (c t M : ℕ) (w : Walk) {v : Walk} → ArrivesAfter rules T M w v → length w.cells ≤ c
      → is_arrival (guided rules T c t [] w).reply ≡ true → (M ≤ t) × (length v.cells ≤ c)
  unfolding walked_by
  arrival_fits c t M w a k e =
      let r = guided_prefix c t M w a in
      whole_fits a r.0 k (arrival_only r.0.reason (record { steps = r.0.steps; cells = length r.0.end.cells })
      (ap (λ (o : Report). is_arrival o.reply) (sym r.2) ∙ e))
