-- What the cells of a stack choose: the least choices of a start, and those of the new cells of a step.
-- Assumes nothing.
use Rattle.std.specs.Prelude.{ℕ, ◌+◌, ◌-◌, ◌≡◌, eqb}
use Rattle.std.proofs.Math.Path.{refl, ap}
use Rattle.std.proofs.Common.{sym, subst, ⊎_elim, eqb-true, eq-eqb}
use mathlib.Core.List.Memᴰ
use mathlib.Core.List.{List, [], ◌∷◌, Memᴰ}
use native.Mathlib.Omega.{arith}
use Rattle.std.proofs.lemmas.Bool.{eqb-false}
use Rattle.words.specs.Laws.Tests.{by_test}
use Rattle.words.proofs.Sets.Laws.{All}
use Rattle.words.specs.Lists.Laws.{only_in, only_out}
use Rattle.stacks.specs.Stack.{Stack1, cons1, Stack2, cons2, Annotation, of1, of2}
use Rattle.automata.specs.Automaton.{Automaton, move_at, edge_at, moves_of, edges_of, entry_edge}
use Rattle.automata.specs.Automaton.Laws.{MoveOf, EdgeOf, moves_of_in, moves_of_out, edges_of_in, edges_of_out}
use Rattle.automata.specs.Acceptance.{move_fits, edge_fits}
use Rattle.automata.proofs.Acceptance.Laws.{Accepts1, Accepts2, AcceptsAnnotation, move_fits_in, move_fits_out, edge_fits_in, edge_fits_out}
use Rattle.automata.specs.Derivation.{Derivation}
use Rattle.automata.specs.Derivation.Numbers.{Paired, empty, also}
use Rattle.walks.specs.Guide.{first_or_zero, least_choice, chooses, chooses_all, premise, top_choice, root_choice}

-- ---- the least choices of a start

-- the first number of a list that is not empty is one of it
pub first_in : {n : ℕ} {l : List ℕ} → Memᴰ n l → Memᴰ (first_or_zero l) l
unfolding first_or_zero
first_in (Memᴰ.head e) = Memᴰ.head refl
first_in (Memᴰ.tail i) = Memᴰ.head refl

module _ (A : Automaton) where
  -- the least choice of an accepting state is a move of its that the annotation and the rest fit
  pub least_move : (a : ℕ) (u : Annotation) (s : Stack1) (r : ℕ) → Accepts1 A (cons1 a u s) r
      → (n : ℕ) × (least_choice A (of1 (cons1 a u s)) r ≡ n) × MoveOf A a r n × AcceptsAnnotation A u (move_at A n).order (move_at A n).B
      × All (move_at A n).R (Accepts1 A s)
  unfolding Accepts1 least_choice
  least_move a u s r h =
      let k = only_in (λ i. move_fits A u s (move_at A i)) (moves_of_in A h.move) (move_fits_in A u s (move_at A h.number) h.annotation h.rest) in
      let o = only_out (λ i. move_fits A u s (move_at A i)) (moves_of A r a) (first_in k) in
      let f = move_fits_out A u s (move_at A (least_choice A (of1 (cons1 a u s)) r)) o.1 in
      (least_choice A (of1 (cons1 a u s)) r, refl, moves_of_out A r a o.0, f.0, f.1)

  -- and for an order-2 stack it is an edge of its that the top and the rest fit
  pub least_edge : (w : Stack1) (t : Stack2) (q : ℕ) → Accepts2 A (cons2 w t) q
      → (n : ℕ) × (least_choice A (of2 (cons2 w t)) q ≡ n) × EdgeOf A q n × Accepts1 A w (edge_at A n).first × All (edge_at A n).S (Accepts2 A t)
  unfolding Accepts1 least_choice
  least_edge w t q h =
      let k = only_in (λ i. edge_fits A w t (edge_at A i)) (edges_of_in A h.edge) (edge_fits_in A w t (edge_at A h.number) h.first h.rest) in
      let o = only_out (λ i. edge_fits A w t (edge_at A i)) (edges_of A q) (first_in k) in
      let f = edge_fits_out A w t (edge_at A (least_choice A (of2 (cons2 w t)) q)) o.1 in
      (least_choice A (of2 (cons2 w t)) q, refl, edges_of_out A q o.0, f.0, f.1)

-- ---- the choices of new cells

pub chooses_it : (q n : ℕ) → chooses q n q ≡ n
unfolding chooses
chooses_it q n = rw (chooses, eq-eqb q q refl)

-- each state chooses a number that belongs to it
pub chooses_all_it : {X : ℕ → ℕ → Type 0} {qs ns : List ℕ} {q : ℕ} → Paired X qs ns → Memᴰ q qs
    → X q (chooses_all qs ns q) × Memᴰ (chooses_all qs ns q) ns
unfolding chooses_all
chooses_all_it empty i = absurd (Memᴰ.not-nil i)
chooses_all_it {X = X} {q = q} (also {q = y} {n = n} {qs = qs} {ns = ns} x ps) i = by_test (eqb y q)
    (λ t. rw (chooses_all, t) (subst (λ (z : ℕ). X z n) (eqb-true y q t) x, Memᴰ.head refl))
    (λ t.
    let r = chooses_all_it ps (⊎_elim (λ e. absurd (eqb-false y q t (sym e))) (λ j. j) (Memᴰ.cases_cons i)) in
    rw (chooses_all, t) (r.0, Memᴰ.tail r.1))

module _ (A : Automaton) (d : Derivation) (p' : ℕ) where
  pub premise_is : {n : ℕ} → d.premise ≡ n ∷ [] → premise A d p' ≡ n
  unfolding premise first_or_zero
  premise_is e = ap first_or_zero e

  pub top_choice_is : (n : ℕ) → d.premise ≡ n ∷ [] → top_choice A d p' (move_at A n).state ≡ n
  unfolding top_choice
  top_choice_is n e = rw (top_choice, premise_is e) (chooses_it (move_at A n).state n)

  pub root_choice_is : (n e : ℕ) → d.premise ≡ n ∷ [] → (move_at A n).state ≡ A.J + e → root_choice A d p' p' ≡ entry_edge A e
  unfolding root_choice
  root_choice_is n e h k =
      let z : A.J + e - A.J ≡ e = omega arith in
      rw (root_choice, premise_is h, k, z) (chooses_it p' (entry_edge A e))
