-- One step and the full run on cells: what a step says, and that cells are only added.
-- Assumes nothing.
use Prim.Native.Nat.{ℕ, zero, suc, ◌+◌, ◌≤◌}
use Rattle.std.specs.Prelude.{◌≡◌, take, ltb}
use Rattle.std.proofs.Math.Path.{refl, ap, sym}
use Rattle.std.proofs.Common.{◌∙◌, zero-add, suc-add, not-suc-le-zero, le_of_suc-le-suc, length-append, ltb-false}
use Rattle.std.proofs.Math.Option.{Option, none, some, some-injective, none-ne-some}
use mathlib.Core.List.{List, ◌∷◌, ◌++◌, zip_with}
use Rattle.std.proofs.Math.Nat.{le_of_eq}
use native.Mathlib.Omega.{arith}
use Rattle.std.proofs.Math.ListN.{length, get_elem?}
use Rattle.words.specs.Laws.Tests.{by_test}
use Rattle.stacks.specs.Stack.{Operation, rewrite, push1, push2, copy, pop1, pop2, collapse1, collapse2, new_cells}
use Rattle.stacks.specs.System.{Rule}
use Rattle.automata.specs.Automaton.{Automaton, move_at}
use Rattle.automata.specs.Derivation.{Derivation, result_of, first_derivation}
use Rattle.automata.specs.Saturation.{Saturated, before, own_moves}
use Rattle.walks.specs.Cell.{cells_after}
use Rattle.walks.specs.Guide.{Guided, Walk, Top, guided_at, top_of, choices_after, Next, arrived, to, stuck, moved, by_derivation, at_top, next, walk_after, trace_after}
use Rattle.guidance.specs.Halt.{cells_of_steps}

-- ---- the three answers of a step differ

unfoldable pub answer_code : Next → ℕ
answer_code arrived = 0
answer_code (to n v) = 1
answer_code stuck = 2

unfoldable pub word_of : Next → ℕ
word_of arrived = 0
word_of (to n v) = n
word_of stuck = 0

unfoldable pub walk_of : Walk → Next → Walk
walk_of w arrived = w
walk_of w (to n v) = v
walk_of w stuck = w

pub to_arrived : {n : ℕ} {v : Walk} → to n v ≡ arrived → ⊥
unfolding answer_code
to_arrived e = let z = ap answer_code e in absurd (omega arith)

pub stuck_arrived : stuck ≡ arrived → ⊥
unfolding answer_code
stuck_arrived e = let z = ap answer_code e in absurd (omega arith)

pub stuck_to : {n : ℕ} {v : Walk} → stuck ≡ to n v → ⊥
unfolding answer_code
stuck_to e = let z = ap answer_code e in absurd (omega arith)

pub to_word : {n m : ℕ} {v u : Walk} → to n v ≡ to m u → n ≡ m
unfolding word_of
to_word e = ap word_of e

pub to_walk : {n m : ℕ} {v u : Walk} → to n v ≡ to m u → v ≡ u
unfolding walk_of
to_walk {v = v} e = ap (walk_of v) e

-- ---- the new cells of a step

-- the new cells of an operation at this top, the first having number n, with the choices of derivation d
unfoldable pub added : Automaton → Derivation → ℕ → Operation → ℕ → Top → List Guided
added A d p' op n x = zip_with (λ c f. record { cell = c; choice = f }) (cells_after op n x.a x.u x.s x.t) (choices_after A d p' op)

pub length_added : (A : Automaton) (d : Derivation) (p' : ℕ) (op : Operation) (n : ℕ) (x : Top) → length (added A d p' op n x) ≡ new_cells op
unfolding added cells_after choices_after new_cells zip_with
length_added A d p' (rewrite b) n x = refl
length_added A d p' (push1 b) n x = refl
length_added A d p' (push2 b) n x = refl
length_added A d p' copy n x = refl
length_added A d p' pop1 n x = refl
length_added A d p' pop2 n x = refl
length_added A d p' collapse1 n x = refl
length_added A d p' collapse2 n x = refl

-- ---- what a step says

module _ (rules : List Rule) (T : Saturated) where
  -- a step from w by rule n to v: by the first derivation of the move chosen at the top, which is past round 0
  pub record Stepped (w : Walk) (n : ℕ) (v : Walk) : Type 0 where
    pub top : Top
    pub derivation : Derivation
    pub rule : Rule
    pub top_is : top_of T.table w (guided_at w w.root).cell ≡ some top
    pub later : own_moves T.sizes ≤ top.move
    pub first_is : first_derivation (before T top.move) rules (result_of T.table (move_at T.table top.move)) ≡ some derivation
    pub number_is : derivation.rule ≡ n
    pub rule_is : get_elem? rules n ≡ some rule
    pub walk_is : moved rules T w top derivation rule ≡ v

  pub stepped : {w : Walk} {n : ℕ} {v : Walk} → next rules T w ≡ to n v → Stepped w n v
  unfolding next at_top by_derivation
  stepped {w} {n} {v} h = at_top_lem (top_of T.table w (guided_at w w.root).cell) refl h
    where
      derived : Top → Option Derivation
      derived x = first_derivation (before T x.move) rules (result_of T.table (move_at T.table x.move))

      by_rule_lem : (x : Top) (d : Derivation) (o : Option Rule)
          → top_of T.table w (guided_at w w.root).cell ≡ some x → own_moves T.sizes ≤ x.move → derived x ≡ some d
          → get_elem? rules d.rule ≡ o → by_derivation rules T w x (some d) ≡ to n v → Stepped w n v
      by_rule_lem x d none e l f g k = absurd (stuck_to (rw (by_derivation, g) at k))
      by_rule_lem x d (some ρ) e l f g k =
          let k' : to d.rule (moved rules T w x d ρ) ≡ to n v = rw (by_derivation, g) at k in
          record {
            top = x;
            derivation = d;
            rule = ρ;
            top_is = e;
            later = l;
            first_is = f;
            number_is = to_word k';
            rule_is = ap (get_elem? rules) (sym (to_word k')) ∙ g;
            walk_is = to_walk k';
          }

      by_first : (x : Top) (o : Option Derivation) → top_of T.table w (guided_at w w.root).cell ≡ some x → own_moves T.sizes ≤ x.move
          → derived x ≡ o → by_derivation rules T w x o ≡ to n v → Stepped w n v
      by_first x none e l f k = absurd (stuck_to k)
      by_first x (some d) e l f k = by_rule_lem x d (get_elem? rules d.rule) e l f refl k

      at_top_lem : (o : Option Top) → top_of T.table w (guided_at w w.root).cell ≡ o → at_top rules T w o ≡ to n v → Stepped w n v
      at_top_lem none e k = absurd (to_arrived (sym k))
      at_top_lem (some x) e k = by_test (ltb x.move (own_moves T.sizes))
          (λ p. absurd (to_arrived (sym (rw (at_top, p) at k))))
          (λ p. by_first x (derived x) e (ltb-false x.move (own_moves T.sizes) p) refl (rw (at_top, p) at k))

  -- ---- cells are only added

  pub step_added : {w v : Walk} {n : ℕ} (x : Stepped w n v)
      → v.cells ≡ w.cells ++ added T.table x.derivation x.rule.next x.rule.operation (length w.cells) x.top
  unfolding moved added
  step_added x = ap (λ (u : Walk). u.cells) (sym x.walk_is)

  -- "new cells": each step uses as many as its operation's line says
  pub step_cells : {w v : Walk} {n : ℕ} (x : Stepped w n v) → length v.cells ≡ length w.cells + new_cells x.rule.operation
  step_cells {w} x =
      let new : List Guided = added T.table x.derivation x.rule.next x.rule.operation (length w.cells) x.top in
      ap length (step_added x) ∙ length-append w.cells new
      ∙ ap (λ (k : ℕ). length w.cells + k) (length_added T.table x.derivation x.rule.next x.rule.operation (length w.cells) x.top)

  pub cells_grow : (w : Walk) {n : ℕ} {v : Walk} → next rules T w ≡ to n v → length w.cells ≤ length v.cells
  cells_grow w {n} {v} e = let x = stepped e in let l = step_cells x in omega arith

  -- ---- the run

  pub walk_after_to : (w : Walk) {n : ℕ} {v : Walk} → next rules T w ≡ to n v → (m : ℕ) → walk_after rules T (suc m) w ≡ walk_after rules T m v
  unfolding walk_after
  walk_after_to w e m = rw (walk_after, e)

  pub trace_after_to : (w : Walk) {n : ℕ} {v : Walk} → next rules T w ≡ to n v → (m : ℕ) → trace_after rules T (suc m) w ≡ n ∷ trace_after rules T m v
  unfolding trace_after
  trace_after_to w e m = rw (trace_after, e)

  -- by the answer of a step
  pub by_next : (w : Walk) {X : Type 0} → (next rules T w ≡ arrived → X) → ((n : ℕ) (v : Walk) → next rules T w ≡ to n v → X)
      → (next rules T w ≡ stuck → X) → X
  by_next w {X} f g h = go (next rules T w) refl
    where
      go : (x : Next) → next rules T w ≡ x → X
      go arrived e = f e
      go (to n v) e = g n v e
      go stuck e = h e

  -- a run of at least one step makes a first one
  pub run_first : (w : Walk) (m : ℕ) {u : Walk} → walk_after rules T (suc m) w ≡ some u
      → (n : ℕ) × (v : Walk) × (next rules T w ≡ to n v) × (walk_after rules T m v ≡ some u)
  unfolding walk_after
  run_first w m {u} h = by_next w
      (λ e. absurd (none-ne-some u (rw (walk_after, e) at h)))
      (λ n v e. (n, v, e, sym (walk_after_to w e m) ∙ h))
      (λ e. absurd (none-ne-some u (rw (walk_after, e) at h)))

  pub run_cells : (m : ℕ) (w : Walk) {u : Walk} → walk_after rules T m w ≡ some u → length w.cells ≤ length u.cells
  unfolding walk_after
  run_cells zero w {u} h = le_of_eq (ap (λ (v : Walk). length v.cells) (some-injective w u h))
  run_cells (suc m) w {u} h =
      let r = run_first w m h in
      let k : length w.cells ≤ length r.1.cells = cells_grow w r.2 in
      let l : length r.1.cells ≤ length u.cells = run_cells m r.1 r.3 in
      omega arith

  pub run_trace : (m : ℕ) (w : Walk) {u : Walk} → walk_after rules T m w ≡ some u → length (trace_after rules T m w) ≡ m
  unfolding trace_after
  run_trace zero w h = refl
  run_trace (suc m) w h = let r = run_first w m h in rw (trace_after_to w r.2 m) (ap suc (run_trace m r.1 r.3))

  -- the rule numbers of m steps are at most m
  pub trace_short : (m : ℕ) (w : Walk) → length (trace_after rules T m w) ≤ m
  unfolding trace_after
  trace_short zero w = omega arith
  trace_short (suc m) w = by_next w
      (λ e. rw (trace_after, e) (omega arith))
      (λ n v e. let l : length (trace_after rules T m v) ≤ m = trace_short m v in rw (trace_after_to w e m) (omega arith))
      (λ e. rw (trace_after, e) (omega arith))

  -- the rule numbers of fewer steps are the first of those of more
  pub trace_take : (m k : ℕ) (w : Walk) → m ≤ k → trace_after rules T m w ≡ take m (trace_after rules T k w)
  unfolding trace_after
  trace_take zero k w h = refl
  trace_take (suc m) zero w h = absurd (not-suc-le-zero h)
  trace_take (suc m) (suc k) w h = by_next w
      (λ e. rw (trace_after, e))
      (λ n v e. trace_after_to w e m ∙ ap (λ (l : List ℕ). n ∷ l) (trace_take m k v (le_of_suc-le-suc h)) ∙ ap (take (suc m)) (sym (trace_after_to w e k)))
      (λ e. rw (trace_after, e))

  -- ---- a run in two parts

  pub run_join : (k j : ℕ) (w : Walk) {u : Walk} → walk_after rules T k w ≡ some u → walk_after rules T (k + j) w ≡ walk_after rules T j u
  unfolding walk_after
  run_join zero j w {u} h = ap (λ (i : ℕ). walk_after rules T i w) (zero-add j) ∙ ap (walk_after rules T j) (some-injective w u h)
  run_join (suc k) j w {u} h =
      let r = run_first w k h in
      ap (λ (i : ℕ). walk_after rules T i w) (suc-add k j) ∙ walk_after_to w r.2 (k + j) ∙ run_join k j r.1 r.3

  pub run_split : (k j : ℕ) (w : Walk) {v : Walk} → walk_after rules T (k + j) w ≡ some v
      → (u : Walk) × (walk_after rules T k w ≡ some u) × (walk_after rules T j u ≡ some v)
  unfolding walk_after
  run_split zero j w h = (w, refl, ap (λ (i : ℕ). walk_after rules T i w) (sym (zero-add j)) ∙ h)
  run_split (suc k) j w h =
      let r = run_first w (k + j) (ap (λ (i : ℕ). walk_after rules T i w) (sym (suc-add k j)) ∙ h) in
      let q = run_split k j r.1 r.3 in
      (q.0, walk_after_to w r.2 k ∙ q.1, q.2)

-- ---- the cells used

-- "After m steps the cells used are the start file's cells and the new cells of those steps."
pub run_cells_used : (rules : List Rule) (T : Saturated) (m : ℕ) (w : Walk) {v : Walk} → walk_after rules T m w ≡ some v
    → length v.cells ≡ length w.cells + cells_of_steps rules (trace_after rules T m w)
unfolding walk_after trace_after cells_of_steps
run_cells_used rules T zero w {v} h =
    let e : length v.cells ≡ length w.cells = ap (λ (u : Walk). length u.cells) (sym (some-injective w v h)) in
    omega arith
run_cells_used rules T (suc m) w {v} h =
    let r = run_first rules T w m h in
    let x = stepped rules T r.2 in
    let a : length r.1.cells ≡ length w.cells + new_cells x.rule.operation = step_cells rules T x in
    let b : length v.cells ≡ length r.1.cells + cells_of_steps rules (trace_after rules T m r.1) = run_cells_used rules T m r.1 r.3 in
    rw (trace_after_to rules T w r.2 m, cells_of_steps, x.rule_is) (omega arith)
