-- What a table shows of the answers of the recursion: where a test of rounds lets through exactly the rounds of the table's moves, a state
-- accepts a stack by that table exactly if its round passes.
-- Assumes nothing.
use Prim.Native.Nat.{ℕ, zero, suc, max, min}
use Rattle.std.specs.Prelude.{Bool, true, false, ◌||◌, ◌≡◌, eqb, leb}
use Rattle.std.proofs.Math.Bool.{◌&&◌, and-false, or-false}
use Rattle.std.proofs.Math.Path.{refl, ap, ap₂, sym}
use Rattle.std.proofs.Common.{◌∙◌, ⊎_elim, arith, leb-true, leb-false, le-leb}
use mathlib.Core.List.{List, [], ◌∷◌}
use Rattle.words.specs.Laws.Tests.{by_test, equal_tests, and_left, and_right, or_cases}
use Rattle.words.specs.Sets.{member, members}
use Rattle.words.specs.Lists.{only, every, some_of, places}
use Rattle.words.specs.Lists.Laws.{every_cons, some_of_cons}
use Rattle.stacks.specs.Stack.{Stack1, nil1, cons1, Stack2, nil2, cons2, Annotation, of1, of2, annotation_order}
use Rattle.replies.specs.declared.Acceptance.{Acceptance}
use Rattle.replies.specs.declared.Acceptance.TheVariants.{Never, Since}
use Rattle.automata.specs.Automaton.{Automaton, Move, Edge, edges, move_at, edge_at}
use Rattle.automata.specs.Acceptance.{accepts1, accepts2, accepts_annotation, move_fits, edge_fits}
use Rattle.automata.specs.Saturation.{Saturated, round_of}
use Rattle.rounds.specs.Won.{earlier, later, earliest, latest, final_round, annotation_round, move_round, edge_round, symbol_round, above_round, round1, round2, round_of_stack, accepts_stack}

-- ---- a test of rounds

-- A test that lets through round 0, and the rounds up to some bound, or all.
pub record Downward (test : ℕ → Bool) : Type 0 where
  pub at_zero : test 0 ≡ true
  pub of_max : (m n : ℕ) → test (max m n) ≡ test m && test n
  pub of_min : (m n : ℕ) → test (min m n) ≡ test m || test n

pub any_round : Downward (λ n. true)
any_round = record { at_zero = refl; of_max = λ m n. refl; of_min = λ m n. refl }

pub up_to : (k : ℕ) → Downward (λ n. leb n k)
up_to k =
    record {
      at_zero = le-leb 0 k (omega arith);
      of_max = λ m n. equal_tests _ _
          (λ h. let l = leb-true (max m n) k h in ap₂ ◌&&◌ (le-leb m k (omega arith)) (le-leb n k (omega arith)))
          (λ h. let a = leb-true m k (and_left (leb m k) (leb n k) h) in let b = leb-true n k (and_right (leb m k) (leb n k) h) in le-leb (max m n) k (omega arith));
      of_min = λ m n. equal_tests _ _
          (λ h.
          let l = leb-true (min m n) k h in
          by_test (leb m k)
          (λ t. ap (λ (b : Bool). b || leb n k) t)
          (λ t. let f = leb-false m k t in ap₂ ◌||◌ t (le-leb n k (omega arith))))
          (λ h. ⊎_elim
          (λ t. let a = leb-true m k t in le-leb (min m n) k (omega arith))
          (λ t. let b = leb-true n k t in le-leb (min m n) k (omega arith))
          (or_cases (leb m k) (leb n k) h));
    }

-- the round of the answer passes
unfoldable pub passes : (ℕ → Bool) → Acceptance → Bool
passes test Never = false
passes test (Since n) = test n

module _ {test : ℕ → Bool} (D : Downward test) where
  passes_later : (a b : Acceptance) → passes test (later a b) ≡ passes test a && passes test b
  unfolding passes later
  passes_later Never b = refl
  passes_later (Since m) Never = sym (and-false (test m))
  passes_later (Since m) (Since n) = D.of_max m n

  passes_earlier : (a b : Acceptance) → passes test (earlier a b) ≡ passes test a || passes test b
  unfolding passes earlier
  passes_earlier Never b = refl
  passes_earlier (Since m) Never = sym (or-false (test m))
  passes_earlier (Since m) (Since n) = D.of_min m n

  -- all states pass
  passes_latest : (f : ℕ → Acceptance) (l : List ℕ) → passes test (latest f l) ≡ every (λ q. passes test (f q)) l
  unfolding latest every passes
  passes_latest f [] = D.at_zero
  passes_latest f (q ∷ qs) =
      passes_later (f q) (latest f qs) ∙ ap (λ (b : Bool). passes test (f q) && b) (passes_latest f qs) ∙ sym (every_cons (λ x. passes test (f x)) q qs)

  -- some number passes
  passes_earliest : (f : ℕ → Acceptance) (l : List ℕ) → passes test (earliest f l) ≡ some_of (λ i. passes test (f i)) l
  unfolding earliest some_of passes
  passes_earliest f [] = refl
  passes_earliest f (i ∷ is) =
      passes_earlier (f i) (earliest f is) ∙ ap (λ (b : Bool). passes test (f i) || b) (passes_earliest f is)
      ∙ sym (some_of_cons (λ x. passes test (f x)) i is)

  passes_final : (final q : ℕ) → passes test (final_round final q) ≡ member final q
  unfolding passes final_round
  passes_final final q = by_test (member final q) (λ e. rw (final_round, e) D.at_zero) (λ e. rw (final_round, e))

-- ---- what is asked of the table

-- The moves of A are the moves of T whose round passes, and the edges that A lacks accept nothing by A.
pub record Shows (T : Saturated) (test : ℕ → Bool) (A : Automaton) : Type 0 where
  pub same_final1 : A.final1 ≡ T.table.final1
  pub same_final2 : A.final2 ≡ T.table.final2
  pub moves_shown : (mine fits : Move → Bool)
      → some_of (λ i. test (round_of T.sizes i) && fits (move_at T.table i)) (places mine T.table.moves) ≡ some_of fits (only mine A.moves)
  pub edges_shown : (w : Stack1) (mine fits : Edge → Bool) → ((e : Edge) → accepts1 A w e.first ≡ false → fits e ≡ false)
      → some_of (λ i. fits (edge_at T.table i)) (places mine (edges T.table)) ≡ some_of fits (only mine (edges A))

-- ---- the table shows which rounds pass

every_same : (f g : ℕ → Bool) → ((q : ℕ) → f q ≡ g q) → (l : List ℕ) → every f l ≡ every g l
every_same f g e l = ap (λ (h : ℕ → Bool). every h l) (λ i q. e q i)

some_same : (f g : ℕ → Bool) → ((q : ℕ) → f q ≡ g q) → (l : List ℕ) → some_of f l ≡ some_of g l
some_same f g e l = ap (λ (h : ℕ → Bool). some_of h l) (λ i q. e q i)

module _ {test : ℕ → Bool} (D : Downward test) (A : Automaton) where
  -- a set, where the automaton shows each of its members
  shown_set : (f : ℕ → Acceptance) (accepts : ℕ → Bool) → ((q : ℕ) → passes test (f q) ≡ accepts q) → (B : ℕ)
      → passes test (latest f (members B)) ≡ every accepts (members B)
  shown_set f accepts e B = passes_latest D f (members B) ∙ every_same _ _ e (members B)

  -- an annotation
  shown_annotation : (u : Annotation) (f : ℕ → Acceptance) → ((q : ℕ) → passes test (f q) ≡ accepts_stack A u q) → (o B : ℕ)
      → passes test (annotation_round (annotation_order u) f o B) ≡ accepts_annotation A u o B
  unfolding annotation_round annotation_order accepts1 accepts_stack passes
  shown_annotation (of1 u) f h zero B = D.at_zero
  shown_annotation (of1 u) f h (suc zero) B = shown_set f (λ q. accepts1 A u q) h B
  shown_annotation (of1 u) f h (suc (suc o)) B = refl
  shown_annotation (of2 u) f h zero B = D.at_zero
  shown_annotation (of2 u) f h (suc zero) B = refl
  shown_annotation (of2 u) f h (suc (suc o)) B = shown_set f (λ q. accepts2 A u q) h B

  -- one move, where the automaton shows its annotation and its rest
  pub shown_move : (u : Annotation) (s : Stack1) (f g : ℕ → Acceptance) → ((q : ℕ) → passes test (f q) ≡ accepts_stack A u q)
      → ((q : ℕ) → passes test (g q) ≡ accepts1 A s q) → (m : Move) → passes test (move_round (annotation_order u) f g m) ≡ move_fits A u s m
  unfolding move_round move_fits
  shown_move u s f g annotation rest m =
      passes_later D _ _ ∙ ap₂ ◌&&◌ (shown_annotation u f annotation m.order m.B) (shown_set g _ rest m.R)

  -- one edge, where it shows the top and the rest
  pub shown_edge : (w : Stack1) (t : Stack2) (f g : ℕ → Acceptance) → ((r : ℕ) → passes test (f r) ≡ accepts1 A w r)
      → ((q : ℕ) → passes test (g q) ≡ accepts2 A t q) → (e : Edge) → passes test (edge_round f g e) ≡ edge_fits A w t e
  unfolding edge_round edge_fits
  shown_edge w t f g top rest e = passes_later D _ _ ∙ ap₂ ◌&&◌ (top e.first) (shown_set g _ rest e.S)

  fits_first : (w : Stack1) (t : Stack2) (e : Edge) → accepts1 A w e.first ≡ false → edge_fits A w t e ≡ false
  unfolding edge_fits
  fits_first w t e h = ap (λ (b : Bool). b && every (λ q. accepts2 A t q) (members e.S)) h

module _ {T : Saturated} {test : ℕ → Bool} {A : Automaton} (D : Downward test) (H : Shows T test A) where
  mutual
    unfolding move_fits edge_fits round1 symbol_round above_round accepts1 accepts_stack passes move_at edge_at

    pub shown1 : (s : Stack1) (r : ℕ) → passes test (round1 T s r) ≡ accepts1 A s r
    shown1 nil1 r = passes_final D T.table.final1 r ∙ ap (λ (f : ℕ). member f r) (sym H.same_final1)
    shown1 (cons1 a u s) r =
        passes_earliest D _ (places _ T.table.moves)
        ∙ some_same _ _ (λ i.
        passes_later D (Since (round_of T.sizes i)) _
        ∙ ap (λ (b : Bool). test (round_of T.sizes i) && b)
        (shown_move D A u s (λ q. round_of_stack T u q) (λ q. round1 T s q) (λ q. shown_stack u q) (λ q. shown1 s q) (move_at T.table i)))
        (places _ T.table.moves)
        ∙ H.moves_shown (λ m. eqb m.state r && eqb m.symbol a) (move_fits A u s)

    pub shown2 : (t : Stack2) (q : ℕ) → passes test (round2 T t q) ≡ accepts2 A t q
    shown2 nil2 q = passes_final D T.table.final2 q ∙ ap (λ (f : ℕ). member f q) (sym H.same_final2)
    shown2 (cons2 w t) q =
        passes_earliest D _ (places _ (edges T.table))
        ∙ some_same _ _ (λ i. shown_edge D A w t (λ r. round1 T w r) (λ x. round2 T t x) (λ r. shown1 w r) (λ x. shown2 t x) (edge_at T.table i))
        (places _ (edges T.table))
        ∙ H.edges_shown w (λ e. eqb e.state q) (edge_fits A w t) (λ e h. fits_first D A w t e h)

    pub shown_stack : (u : Annotation) (q : ℕ) → passes test (round_of_stack T u q) ≡ accepts_stack A u q
    shown_stack (of1 u) q = shown1 u q
    shown_stack (of2 u) q = shown2 u q
