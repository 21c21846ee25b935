-- Document 01's operations, rules, steps and runs are the published ones.
-- Assumes nothing.
use Rattle.std.specs.Prelude.{ℕ, zero, suc, Bool, true, false, ◌&&◌, ◌≡◌, refl, ◌↔◌, eqb}
use Rattle.std.proofs.Common.{ap, sym, ◌∙◌, subst, eqb-true, eq-eqb}
use Rattle.std.proofs.Math.Option.{Option, none, some, some-injective, none-ne-some}
use mathlib.Core.List.Memᴰ
use mathlib.Core.List.{List, [], ◌∷◌, map, Memᴰ}
use Rattle.std.proofs.Math.ListN.{get_elem?}
use Rattle.stacks.specs.Stack.{Stack1, nil1, cons1, Stack2, nil2, cons2, Annotation, of1, of2}
use Rattle.stacks.specs.Stack.{Operation, rewrite, push1, push2, copy, pop1, pop2, collapse1, collapse2, after}
use Rattle.stacks.specs.System.{Configuration, Rule, entered, step_on, step, Run, stay, go}
use Rattle.stacks.specs.Published.{Character, ◌annotated◌, top₁, top₂, Published, pop₁, pop₂, push₂, collapse₁, collapse₂, push¹, push², rew}
use Rattle.stacks.specs.Published.{◌:₁◌}
use Rattle.stacks.specs.Published.{Performs, pops₁, pops₂, pushes₂, collapses₁, collapses₂, pushes¹, pushes², rewrites}
use Rattle.stacks.specs.Published.{Transition, Transitions, nothing, and_then, published, published_rule}

-- ---- the operations

-- every published operation is one of the eight
pub published_every : (o : Published) → (x : Operation) × (published x ≡ o)
unfolding published
published_every pop₁ = (pop1, refl)
published_every pop₂ = (pop2, refl)
published_every push₂ = (copy, refl)
published_every collapse₁ = (collapse1, refl)
published_every collapse₂ = (collapse2, refl)
published_every (push¹ b) = (push1 b, refl)
published_every (push² b) = (push2 b, refl)
published_every (rew b) = (rewrite b, refl)

-- the stack left may be given as what `some` holds
performs_some : {o : Published} {v w w' : Stack2} → Performs o v w → some w ≡ some w' → Performs o v w'
performs_some {o} {v} {w} {w'} x e = subst (Performs o v) (some-injective w w' e) x

pub after_performs : (o : Operation) (a : ℕ) (u : Annotation) (s : Stack1) (t : Stack2) {w : Stack2}
    → after o a u s t ≡ some w → Performs (published o) (cons2 (cons1 a u s) t) w
unfolding after published
after_performs (rewrite b) a u s t e = rewrites a u (cons2 s t) refl e
after_performs (push1 b) a u s t e = pushes¹ s (pops₁ (a annotated u) {v = cons2 s t} refl) refl e
after_performs (push2 b) a u s t e = pushes² t (pops₂ (cons1 a u s) refl) refl e
after_performs copy a u s t {w} e = pushes₂ (cons1 a u s) t refl (some-injective _ w e)
after_performs pop1 a u s t e = performs_some (pops₁ (a annotated u) refl) e
after_performs pop2 a u s t e = performs_some (pops₂ (cons1 a u s) refl) e
after_performs collapse1 a (of1 u) s t {w} e = collapses₁ a u s t refl (some-injective _ w e)
after_performs collapse1 a (of2 u) s t {w} e = absurd (none-ne-some w e)
after_performs collapse2 a (of1 u) s t {w} e = absurd (none-ne-some w e)
after_performs collapse2 a (of2 u) s t e = performs_some (collapses₂ a (cons2 s t) refl) e

-- a stack is c :₁ v for one annotation of c and one v
pub one_rest : (c : Character) (v : Stack2) {a : ℕ} {u : Annotation} {s : Stack1} {t : Stack2}
    → c :₁ v ≡ some (cons2 (cons1 a u s) t) → (c.annotation ≡ u) × (v ≡ cons2 s t)
one_rest c nil2 e = absurd (none-ne-some _ e)
one_rest c (cons2 s' t') e = (cc, cc)

pub performs_after : (o : Operation) (a : ℕ) (u : Annotation) (s : Stack1) (t : Stack2) {w : Stack2}
    → Performs (published o) (cons2 (cons1 a u s) t) w → after o a u s t ≡ some w
unfolding after published
performs_after (rewrite b) a u s t (rewrites a' u' v e f) = let r = one_rest (a' annotated u') v e in (rw (r.0, r.1) at f)
performs_after (push1 b) a u s t (pushes¹ u' (pops₁ c {v = v} e) f g) =
    let r = one_rest c v e in
    let h : s ≡ u' = ap top₂ (sym r.1) ∙ f in
    (rw (← h) at g)
performs_after (push2 b) a u s t (pushes² u' (pops₂ u'' e) f g) = let h : t ≡ u' = cc in (rw (← h) at g)
performs_after copy a u s t (pushes₂ u' v e f) = cc
performs_after pop1 a u s t (pops₁ c {v = v} e) = ap {B = Option Stack2} some (sym (one_rest c v e).1)
performs_after pop2 a u s t (pops₂ u' e) = cc
performs_after collapse1 a u s t (collapses₁ a' u' u'' v e f) = let r = one_rest (a' annotated of1 u') (cons2 u'' v) e in rw (← r.0) cc
performs_after collapse2 a u s t (collapses₂ a' v e) = rw (← (one_rest _ v e).0) refl

-- each line of document 01's table is the published operation
pub table_published : (o : Operation) (a : ℕ) (u : Annotation) (s : Stack1) (t w : Stack2)
    → (after o a u s t ≡ some w) ↔ Performs (published o) (cons2 (cons1 a u s) t) w
table_published o a u s t w = (after_performs o a u s t, performs_after o a u s t)

-- ---- the step

-- What it is for a rule to take c to d: the control is p, the stack is symbol a annotated u, then s, then t, and the operation leaves
-- the stack of d.
pub record Applied (ρ : Rule) (c d : Configuration) : Type 0 where
  pub u : Annotation
  pub s : Stack1
  pub t : Stack2
  pub from_control : c.control ≡ ρ.control
  pub stack_is : c.stack ≡ cons2 (cons1 ρ.symbol u s) t
  pub leaves : after ρ.operation ρ.symbol u s t ≡ some d.stack
  pub to_control : d.control ≡ ρ.next

entered_some : (p : ℕ) (o : Option Stack2) (d : Configuration) → entered p o ≡ some d → (o ≡ some d.stack) × (d.control ≡ p)
unfolding entered
entered_some p none d e = absurd (none-ne-some d e)
entered_some p (some w) d e =
    let q = some-injective _ d e in
    (ap {B = Option Stack2} (λ (x : Configuration). some x.stack) q, ap (λ (x : Configuration). x.control) (sym q))

step_on_applied : (ρ : Rule) (p : ℕ) (w : Stack2) (d : Configuration)
    → step_on ρ p w ≡ some d → Applied ρ (record { control = p; stack = w }) d
unfolding step_on
step_on_applied ρ p nil2 d e = absurd (none-ne-some d e)
step_on_applied ρ p (cons2 nil1 t) d e = absurd (none-ne-some d e)
step_on_applied ρ p (cons2 (cons1 a u s) t) d e = go (eqb p ρ.control) (eqb a ρ.symbol) refl refl e
  where
    go : (x y : Bool) → eqb p ρ.control ≡ x → eqb a ρ.symbol ≡ y
        → elim (x && y) as (λ z. Option Configuration) [ true ↦ entered ρ.next (after ρ.operation a u s t) | false ↦ none ] ≡ some d
        → Applied ρ (record { control = p; stack = cons2 (cons1 a u s) t }) d
    go true true i j h =
        let b : a ≡ ρ.symbol = eqb-true a ρ.symbol j in
        let r = entered_some ρ.next (after ρ.operation a u s t) d h in
        record {
          u = u;
          s = s;
          t = t;
          from_control = eqb-true p ρ.control i;
          stack_is = ap (λ (z : ℕ). cons2 (cons1 z u s) t) b;
          leaves = (rw b at r.0);
          to_control = r.1;
        }
    go true false i j h = absurd (none-ne-some d h)
    go false y i j h = absurd (none-ne-some d h)

pub step_applied : (ρ : Rule) (c d : Configuration) → step ρ c ≡ some d → Applied ρ c d
unfolding step
step_applied ρ c d e = step_on_applied ρ c.control c.stack d e

pub applied_step : (ρ : Rule) (c d : Configuration) → Applied ρ c d → step ρ c ≡ some d
unfolding step step_on entered
applied_step ρ c d x =
    rw (x.from_control, x.stack_is) (rw (step_on, eq-eqb ρ.control ρ.control refl, eq-eqb ρ.symbol ρ.symbol refl, x.leaves, ← x.to_control) refl)

top_shape : (w : Stack2) {a : ℕ} → top₁ w ≡ some a → (u : Annotation) × (s : Stack1) × (t : Stack2) × (w ≡ cons2 (cons1 a u s) t)
top_shape nil2 {a} e = absurd (none-ne-some a e)
top_shape (cons2 nil1 t) {a} e = absurd (none-ne-some a e)
top_shape (cons2 (cons1 b u s) t) {a} e = (u, s, t, ap (λ (z : ℕ). cons2 (cons1 z u s) t) (some-injective b a e))

pub step_transition : (ρ : Rule) (c d : Configuration) → step ρ c ≡ some d → Transition (published_rule ρ) c d
unfolding published_rule
step_transition ρ c d e =
    let x = step_applied ρ c d e in
    record {
      from_control = x.from_control;
      top_symbol = ap top₁ x.stack_is;
      performs = rw x.stack_is (after_performs ρ.operation ρ.symbol x.u x.s x.t x.leaves);
      to_control = x.to_control;
    }

pub transition_step : (ρ : Rule) (c d : Configuration) → Transition (published_rule ρ) c d → step ρ c ≡ some d
unfolding published_rule
transition_step ρ c d x =
    let (u, s, t, e) = top_shape c.stack x.top_symbol in
    applied_step ρ c d (record {
      u = u;
      s = s;
      t = t;
      from_control = x.from_control;
      stack_is = e;
      leaves = performs_after ρ.operation ρ.symbol u s t (rw e at x.performs);
      to_control = x.to_control;
    })

-- the step is the published transition
pub step_published : (ρ : Rule) (c d : Configuration) → (step ρ c ≡ some d) ↔ Transition (published_rule ρ) c d
step_published ρ c d = (step_transition ρ c d, transition_step ρ c d)

-- ---- runs

in_get_elem? : {A : Type 0} {x : A} {l : List A} → Memᴰ x l → (n : ℕ) × (get_elem? l n ≡ some x)
in_get_elem? {A} (Memᴰ.head e) = (0, ap {B = Option A} some (sym e))
in_get_elem? (Memᴰ.tail i) = let r = in_get_elem? i in (suc r.0, r.1)

get_elem?_in : {A : Type 0} (l : List A) (n : ℕ) {x : A} → get_elem? l n ≡ some x → Memᴰ x l
get_elem?_in [] n {x} e = absurd (none-ne-some x e)
get_elem?_in (y ∷ l) zero {x} e = Memᴰ.head (sym (some-injective y x e))
get_elem?_in (y ∷ l) (suc n) e = Memᴰ.tail (get_elem?_in l n e)

-- a run is a finite sequence of published transitions from rules of the list, and the other way round
pub run_transitions : (rules : List Rule) {c d : Configuration} {ns : List ℕ} → Run rules c ns d → Transitions (map published_rule rules) c d
run_transitions rules stay = nothing
run_transitions rules (go {c = c} {d = d} {n = n} ρ i e r) =
    and_then (published_rule ρ) (Memᴰ.map published_rule (get_elem?_in rules n i)) (step_transition ρ c d e) (run_transitions rules r)

pub transitions_run : (rules : List Rule) {c d : Configuration} → Transitions (map published_rule rules) c d → (ns : List ℕ) × Run rules c ns d
transitions_run rules nothing = ([], stay)
transitions_run rules (and_then {c = c} {d = d} ρ' i x r) =
    let (ρ, j, e) = Memᴰ.of_map published_rule rules i in
    let (n, k) = in_get_elem? j in
    let (ns, y) = transitions_run rules r in
    (n ∷ ns, go ρ k (transition_step ρ c d (rw (← e) at x)) y)
