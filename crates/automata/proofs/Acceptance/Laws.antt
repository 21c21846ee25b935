-- What acceptance means: a type for each of the tests of Acceptance.antt, by recursion on the stack, that holds exactly if the test does.
-- An automaton accepts all that an automaton accepts which it extends.
-- Assumes nothing.
use Rattle.std.specs.Prelude.{ℕ, zero, suc, true, ◌≡◌, refl, get_or, eqb}
use Rattle.std.proofs.Math.Bool.{Bool, ◌&&◌}
use Rattle.std.proofs.lemmas.Bool.{false≢true}
use Rattle.std.proofs.Common.{ap, sym, ◌∙◌, subst}
use Rattle.std.proofs.Math.Path.{ap₂}
use mathlib.Core.List.{List, Memᴰ}
use Rattle.words.specs.Laws.Tests.{and_left, and_right}
use Rattle.words.specs.Sets.{members}
use Rattle.words.proofs.Sets.Laws.{Has, All, has_in, in_has}
use Rattle.words.specs.Lists.{only, every, some_of, places}
use Rattle.words.specs.Lists.Laws.{only_in, only_out, every_in, in_every, some_of_in, some_of_out, get_or_in, in_get_or, places_in, places_out}
use Rattle.stacks.specs.Stack.{Stack1, nil1, cons1, Stack2, nil2, cons2, Annotation, of1, of2}
use Rattle.automata.specs.Automaton.{Automaton, Move, Edge, no_move, no_edge, edges, edge_at, move_at, edges_of, moves_of}
use Rattle.automata.specs.Automaton.Laws.{MoveOf, EdgeOf, moves_of_in, moves_of_out, edges_of_in, edges_of_out}
use Rattle.automata.specs.Acceptance.{accepts1, accepts2, accepts_annotation, move_fits, edge_fits}
use Rattle.automata.specs.Facts.{Extends}
use Rattle.automata.specs.Facts.Laws.{move_at_kept, move_of_kept, edge_at_kept, edge_of_kept}

-- ---- the meaning

-- A move of r on a whose order and annotation set meet Note and whose rest set's members meet Rest.
pub record ByMove (A : Automaton) (a r : ℕ) (Note : ℕ → ℕ → Type 0) (Rest : ℕ → Type 0) : Type 0 where
  pub number : ℕ
  pub move : MoveOf A a r number
  pub annotation : Note (move_at A number).order (move_at A number).B
  pub rest : All (move_at A number).R Rest

-- An edge of q whose order-1 state meets First and whose set's members meet Rest.
pub record ByEdge (A : Automaton) (q : ℕ) (First Rest : ℕ → Type 0) : Type 0 where
  pub number : ℕ
  pub edge : EdgeOf A q number
  pub first : First (edge_at A number).first
  pub rest : All (edge_at A number).S Rest

module _ (A : Automaton) where
  unfoldable mutual
    pub Accepts1 : Stack1 → ℕ → Type 0
    Accepts1 nil1 r = Has A.final1 r
    Accepts1 (cons1 a u s) r = ByMove A a r (λ k B. AcceptsAnnotation u k B) (λ q. Accepts1 s q)

    pub Accepts2 : Stack2 → ℕ → Type 0
    Accepts2 nil2 q = Has A.final2 q
    Accepts2 (cons2 w t) q = ByEdge A q (λ r. Accepts1 w r) (λ x. Accepts2 t x)

    pub AcceptsAnnotation : Annotation → ℕ → ℕ → Type 0
    AcceptsAnnotation (of1 u) zero B = Unit {0}
    AcceptsAnnotation (of1 u) (suc zero) B = All B (λ q. Accepts1 u q)
    AcceptsAnnotation (of1 u) (suc (suc k)) B = ⊥
    AcceptsAnnotation (of2 u) zero B = Unit {0}
    AcceptsAnnotation (of2 u) (suc zero) B = ⊥
    AcceptsAnnotation (of2 u) (suc (suc k)) B = All B (λ q. Accepts2 u q)

-- at order 0 a move asks nothing of the annotation
pub annotation_any : (A : Automaton) (u : Annotation) (k B : ℕ) → k ≡ 0 → AcceptsAnnotation A u k B
unfolding Accepts1
annotation_any A (of1 u) k B e = rw e tt
annotation_any A (of2 u) k B e = rw e tt

-- ---- the tests and the meaning

all_out : (s : ℕ) (test : ℕ → Bool) → every test (members s) ≡ true → All s (λ q. test q ≡ true)
all_out s test e q h = every_in test e (has_in h)

all_in : (s : ℕ) (test : ℕ → Bool) → All s (λ q. test q ≡ true) → every test (members s) ≡ true
all_in s test f = in_every test (members s) (λ q i. f q (in_has s i))

module _ {X : Type 0} (mine fits : X → Bool) (l : List X) (d : X) where
  some_only_out : some_of fits (only mine l) ≡ true → (i : ℕ) × Memᴰ i (places mine l) × (fits (get_or l i d) ≡ true)
  some_only_out e =
      let (x, j, f) = some_of_out fits (only mine l) e in
      let (k, g) = only_out mine l j in
      let (i, h, at) = in_get_or k in
      (i, places_in mine l d i h (ap mine (at d) ∙ g), ap fits (at d) ∙ f)

  some_only_in : (i : ℕ) → Memᴰ i (places mine l) → fits (get_or l i d) ≡ true → some_of fits (only mine l) ≡ true
  some_only_in i j f =
      let (h, e) = places_out mine l d j in
      some_of_in fits (only_in mine (get_or_in l i d h) e) f

module _ (A : Automaton) where
  mutual
    unfolding accepts1 Accepts1 move_fits edge_fits move_at edge_at moves_of edges_of

    pub accepts1_out : (s : Stack1) (r : ℕ) → accepts1 A s r ≡ true → Accepts1 A s r
    accepts1_out nil1 r e = record { has = e }
    accepts1_out (cons1 a u s) r e =
        let (i, j, g) = some_only_out (λ m. eqb m.state r && eqb m.symbol a) (move_fits A u s) A.moves no_move e in
        let m : Move = move_at A i in
        let annotation : Bool = accepts_annotation A u m.order m.B in
        let rest : Bool = every (λ q. accepts1 A s q) (members m.R) in
        record {
          number = i;
          move = moves_of_out A r a j;
          annotation = accepts_annotation_out u m.order m.B (and_left annotation rest g);
          rest = λ q k. accepts1_out s q (all_out m.R (λ x. accepts1 A s x) (and_right annotation rest g) q k);
        }

    pub accepts2_out : (t : Stack2) (q : ℕ) → accepts2 A t q ≡ true → Accepts2 A t q
    accepts2_out nil2 q e = record { has = e }
    accepts2_out (cons2 w t) q e =
        let (i, j, g) = some_only_out (λ x. eqb x.state q) (edge_fits A w t) (edges A) no_edge e in
        let x : Edge = edge_at A i in
        let top : Bool = accepts1 A w x.first in
        let rest : Bool = every (λ y. accepts2 A t y) (members x.S) in
        record {
          number = i;
          edge = edges_of_out A q j;
          first = accepts1_out w x.first (and_left top rest g);
          rest = λ y k. accepts2_out t y (all_out x.S (λ z. accepts2 A t z) (and_right top rest g) y k);
        }

    pub accepts_annotation_out : (u : Annotation) (k B : ℕ) → accepts_annotation A u k B ≡ true → AcceptsAnnotation A u k B
    accepts_annotation_out (of1 u) zero B e = tt
    accepts_annotation_out (of1 u) (suc zero) B e = λ q h. accepts1_out u q (all_out B (λ x. accepts1 A u x) e q h)
    accepts_annotation_out (of1 u) (suc (suc k)) B e = absurd (false≢true e)
    accepts_annotation_out (of2 u) zero B e = tt
    accepts_annotation_out (of2 u) (suc zero) B e = absurd (false≢true e)
    accepts_annotation_out (of2 u) (suc (suc k)) B e = λ q h. accepts2_out u q (all_out B (λ x. accepts2 A u x) e q h)

  mutual
    unfolding accepts1 Accepts1 move_fits edge_fits move_at edge_at moves_of edges_of

    pub accepts1_in : (s : Stack1) (r : ℕ) → Accepts1 A s r → accepts1 A s r ≡ true
    accepts1_in nil1 r x = x.has
    accepts1_in (cons1 a u s) r x =
        let m : Move = move_at A x.number in
        some_only_in (λ z. eqb z.state r && eqb z.symbol a) (move_fits A u s) A.moves no_move x.number (moves_of_in A x.move)
        (ap₂ ◌&&◌ (accepts_annotation_in u m.order m.B x.annotation) (all_in m.R (λ q. accepts1 A s q) (λ q h. accepts1_in s q (x.rest q h))))

    pub accepts2_in : (t : Stack2) (q : ℕ) → Accepts2 A t q → accepts2 A t q ≡ true
    accepts2_in nil2 q x = x.has
    accepts2_in (cons2 w t) q x =
        let y : Edge = edge_at A x.number in
        some_only_in (λ z. eqb z.state q) (edge_fits A w t) (edges A) no_edge x.number (edges_of_in A x.edge)
        (ap₂ ◌&&◌ (accepts1_in w y.first x.first) (all_in y.S (λ z. accepts2 A t z) (λ z h. accepts2_in t z (x.rest z h))))

    pub accepts_annotation_in : (u : Annotation) (k B : ℕ) → AcceptsAnnotation A u k B → accepts_annotation A u k B ≡ true
    accepts_annotation_in (of1 u) zero B x = refl
    accepts_annotation_in (of1 u) (suc zero) B x = all_in B (λ q. accepts1 A u q) (λ q h. accepts1_in u q (x q h))
    accepts_annotation_in (of1 u) (suc (suc k)) B x = absurd x
    accepts_annotation_in (of2 u) zero B x = refl
    accepts_annotation_in (of2 u) (suc zero) B x = absurd x
    accepts_annotation_in (of2 u) (suc (suc k)) B x = all_in B (λ q. accepts2 A u q) (λ q h. accepts2_in u q (x q h))

  -- the annotation and the rest are as the move asks, exactly if the test says so; the same of an edge
  pub move_fits_out : (u : Annotation) (s : Stack1) (m : Move) → move_fits A u s m ≡ true → AcceptsAnnotation A u m.order m.B × All m.R (Accepts1 A s)
  unfolding move_fits
  move_fits_out u s m e =
      let annotation : Bool = accepts_annotation A u m.order m.B in
      let rest : Bool = every (λ q. accepts1 A s q) (members m.R) in
      (accepts_annotation_out u m.order m.B (and_left annotation rest e), λ q h. accepts1_out s q (all_out m.R (λ x. accepts1 A s x) (and_right annotation rest e) q h))

  pub move_fits_in : (u : Annotation) (s : Stack1) (m : Move) → AcceptsAnnotation A u m.order m.B → All m.R (Accepts1 A s) → move_fits A u s m ≡ true
  unfolding move_fits
  move_fits_in u s m x y = ap₂ ◌&&◌ (accepts_annotation_in u m.order m.B x) (all_in m.R (λ q. accepts1 A s q) (λ q h. accepts1_in s q (y q h)))

  pub edge_fits_out : (w : Stack1) (t : Stack2) (e : Edge) → edge_fits A w t e ≡ true → Accepts1 A w e.first × All e.S (Accepts2 A t)
  unfolding edge_fits
  edge_fits_out w t e f =
      let top : Bool = accepts1 A w e.first in
      let rest : Bool = every (λ q. accepts2 A t q) (members e.S) in
      (accepts1_out w e.first (and_left top rest f), λ q h. accepts2_out t q (all_out e.S (λ x. accepts2 A t x) (and_right top rest f) q h))

  pub edge_fits_in : (w : Stack1) (t : Stack2) (e : Edge) → Accepts1 A w e.first → All e.S (Accepts2 A t) → edge_fits A w t e ≡ true
  unfolding edge_fits
  edge_fits_in w t e x y = ap₂ ◌&&◌ (accepts1_in w e.first x) (all_in e.S (λ q. accepts2 A t q) (λ q h. accepts2_in t q (y q h)))

-- ---- an automaton that extends another accepts all that the other accepts

module _ {own A : Automaton} (X : Extends own A) where
  mutual
    unfolding Accepts1

    pub Accepts1-kept : (s : Stack1) (r : ℕ) → Accepts1 own s r → Accepts1 A s r
    Accepts1-kept nil1 r x = subst (λ (z : ℕ). Has z r) (sym X.same_final1) x
    Accepts1-kept (cons1 a u s) r x =
        let e = move_at_kept X x.number x.move.below in
        record {
          number = x.number;
          move = move_of_kept X x.move;
          annotation = rw e (AcceptsAnnotation-kept u _ _ x.annotation);
          rest = rw e (λ q k. Accepts1-kept s q (x.rest q k));
        }

    pub Accepts2-kept : (t : Stack2) (q : ℕ) → Accepts2 own t q → Accepts2 A t q
    Accepts2-kept nil2 q x = subst (λ (z : ℕ). Has z q) (sym X.same_final2) x
    Accepts2-kept (cons2 w t) q x =
        let e = edge_at_kept X x.number x.edge.below in
        record {
          number = x.number;
          edge = edge_of_kept X x.edge;
          first = rw e (Accepts1-kept w _ x.first);
          rest = rw e (λ y k. Accepts2-kept t y (x.rest y k));
        }

    pub AcceptsAnnotation-kept : (u : Annotation) (k B : ℕ) → AcceptsAnnotation own u k B → AcceptsAnnotation A u k B
    AcceptsAnnotation-kept (of1 u) zero B x = tt
    AcceptsAnnotation-kept (of1 u) (suc zero) B x = λ q h. Accepts1-kept u q (x q h)
    AcceptsAnnotation-kept (of1 u) (suc (suc k)) B x = x
    AcceptsAnnotation-kept (of2 u) zero B x = tt
    AcceptsAnnotation-kept (of2 u) (suc zero) B x = x
    AcceptsAnnotation-kept (of2 u) (suc (suc k)) B x = λ q h. Accepts2-kept u q (x q h)

  pub accepts2_kept : (t : Stack2) (q : ℕ) → accepts2 own t q ≡ true → accepts2 A t q ≡ true
  accepts2_kept t q e = accepts2_in A t q (Accepts2-kept t q (accepts2_out own t q e))
