-- What joins of moves and of edges keep, and when they are there.
-- Assumes nothing.
use Rattle.std.specs.Prelude.{ℕ, ◌<◌, ◌≤◌, max, Bool, true, false, not, ◌&&◌, ◌≡◌, refl, ◌⊎◌, eqb, leb}
use Rattle.std.proofs.lemmas.Bool.{false≢true}
use Rattle.std.proofs.Math.Bool.{and-false}
use Rattle.std.proofs.Common.{ap, ap₂, sym, ◌∙◌, subst, inl, inr, ⊎_elim, arith, eqb-true, eq-eqb, leb-true, leb-false}
use Rattle.std.proofs.Math.Logic.{⊎_map}
use Rattle.std.proofs.Math.Option.{Option, none, some, some-injective, none-ne-some}
use mathlib.Core.List.Memᴰ
use mathlib.Core.List.{List, [], ◌∷◌, map, Memᴰ}
use Rattle.words.specs.Sets.{join, single, part_of}
use Rattle.words.proofs.Sets.Laws.{Has, All, all_empty, all_join, has_empty, has_join_left, has_join_right, has_single, all_single, join_empty_left, join_zero, part_refl, part_trans, part_join_left, part_join_right}
use Rattle.words.specs.Laws.Tests.{by_test}
use Rattle.automata.specs.Automaton.{Automaton, Move, move_at, edge_at}
use Rattle.automata.specs.Derivation.{Joins, joins_of, clash, join_move, join_moves, join_all, named, edge_sets}

-- ---- orders

-- order k is 0 or o
abbrev pub Fits : ℕ → ℕ → Type 0
Fits o k = (k ≡ 0) ⊎ (k ≡ o)

pub clash_fits : (k l : ℕ) → clash k l ≡ false → Fits (max k l) k × Fits (max k l) l
unfolding clash
clash_fits k l h = by_test (eqb k 0)
    (λ a. let z : k ≡ 0 = eqb-true _ _ a in let e : l ≡ max k l = omega arith in (inl z, inr e))
    (λ a. by_test (eqb l 0)
    (λ b. let z : l ≡ 0 = eqb-true _ _ b in let e : k ≡ max k l = omega arith in (inr e, inl z))
    (λ b. by_test (eqb k l)
    (λ c. let z : k ≡ l = eqb-true _ _ c in let e : k ≡ max k l = omega arith in let f : l ≡ max k l = omega arith in (inr e, inr f))
    (λ c. absurd (false≢true (sym h ∙ rw (clash, a, b, c))))))

pub fits_clash : (o : ℕ) {k l : ℕ} → Fits o k → Fits o l → clash k l ≡ false
unfolding clash
fits_clash o (inl a) y = rw (a, clash)
fits_clash o {k} (inr a) (inl b) = rw (b, clash) (ap (λ (t : Bool). t && not (eqb k 0)) (and-false (not (eqb k 0))))
fits_clash o {k} {l} (inr a) (inr b) = rw (clash, eq-eqb k l (a ∙ sym b)) (and-false (not (eqb k 0) && not (eqb l 0)))

pub fits_max : (o : ℕ) {k l : ℕ} → Fits o k → Fits o l → Fits o (max k l)
fits_max o {k} {l} (inl a) (inl b) = let e : max k l ≡ 0 = omega arith in inl e
fits_max o {k} {l} (inl a) (inr b) = let e : max k l ≡ o = omega arith in inr e
fits_max o {k} {l} (inr a) (inl b) = let e : max k l ≡ o = omega arith in inr e
fits_max o {k} {l} (inr a) (inr b) = let e : max k l ≡ o = omega arith in inr e

pub max_either : (k l : ℕ) → (max k l ≡ k) ⊎ (max k l ≡ l)
max_either k l = by_test (leb l k)
    (λ t. let h : l ≤ k = leb-true l k t in let e : max k l ≡ k = omega arith in inl e)
    (λ t. let h : k < l = leb-false l k t in let e : max k l ≡ l = omega arith in inr e)

-- ---- joins of moves

-- j and m joined
abbrev pub both : Joins → Move → Joins
both j m = record { order = max j.order m.order; B = join j.B m.B; R = join j.R m.R }

pub join_move_some : (j : Joins) (m : Move) {k : Joins} → join_move j m ≡ some k → (clash j.order m.order ≡ false) × (k ≡ both j m)
unfolding join_move
join_move_some j m {k} h = by_test (clash j.order m.order)
    (λ e. absurd (none-ne-some k (rw (join_move, e) at h)))
    (λ e. (e, sym (some-injective (both j m) k (rw (join_move, e) at h))))

pub join_move_both : (j : Joins) (m : Move) → clash j.order m.order ≡ false → join_move j m ≡ some (both j m)
unfolding join_move
join_move_both j m e = rw (join_move, e)

pub join_moves_cons : (j : Joins) (m : Move) (ms : List Move) {k : Joins} → join_moves j (m ∷ ms) ≡ some k
    → (clash j.order m.order ≡ false) × (join_moves (both j m) ms ≡ some k)
unfolding join_moves
join_moves_cons j m ms {k} h = go (join_move j m) refl
  where
    go : (o : Option Joins) → join_move j m ≡ o → (clash j.order m.order ≡ false) × (join_moves (both j m) ms ≡ some k)
    go none e = absurd (none-ne-some k (rw (join_moves, e) at h))
    go (some x) e =
        let r = join_move_some j m e in
        (r.0, ap (λ (y : Joins). join_moves y ms) (sym r.1) ∙ (rw (join_moves, e) at h))

-- what holds of j, and is kept by joining each of the moves, holds of the joins
pub join_moves_keeps : (X : Joins → Type 0) (j : Joins) (ms : List Move) {k : Joins} → join_moves j ms ≡ some k → X j
    → ((i : Joins) (m : Move) → Memᴰ m ms → clash i.order m.order ≡ false → X i → X (both i m)) → X k
unfolding join_moves
join_moves_keeps X j [] {k} h x f = subst X (some-injective j k h) x
join_moves_keeps X j (m ∷ ms) h x f =
    let r = join_moves_cons j m ms h in
    join_moves_keeps X (both j m) ms r.1 (f j m (Memᴰ.head refl) r.0 x) (λ i n l. f i n (Memᴰ.tail l))

-- x is a part of the joins k
pub record Into (x k : Joins) : Type 0 where
  pub order_fits_holds : Fits k.order x.order
  pub B-part : part_of x.B k.B ≡ true
  pub R-part : part_of x.R k.R ≡ true

pub into_self : (x : Joins) → Into x x
into_self x = record { order_fits_holds = inr refl; B-part = part_refl x.B; R-part = part_refl x.R }

pub into_trans : {x y z : Joins} → Into x y → Into y z → Into x z
into_trans {x} {y} {z} a b =
    record {
      order_fits_holds = ⊎_elim inl (λ e. ⊎_map (λ f. e ∙ f) (λ f. e ∙ f) b.order_fits_holds) a.order_fits_holds;
      B-part = part_trans x.B y.B z.B a.B-part b.B-part;
      R-part = part_trans x.R y.R z.R a.R-part b.R-part;
    }

pub both_into : (j : Joins) (m : Move) → clash j.order m.order ≡ false → Into j (both j m) × Into (joins_of m) (both j m)
both_into j m e =
    let f = clash_fits j.order m.order e in (
      record { order_fits_holds = f.0; B-part = part_join_left j.B m.B; R-part = part_join_left j.R m.R },
      record { order_fits_holds = f.1; B-part = part_join_right j.B m.B; R-part = part_join_right j.R m.R },
    )

-- what is joined is a part of the joins
pub join_moves_into : (j : Joins) (ms : List Move) {k : Joins} → join_moves j ms ≡ some k → Into j k × ((m : Move) → Memᴰ m ms → Into (joins_of m) k)
unfolding join_moves
join_moves_into j [] {k} h = (subst (Into j) (some-injective j k h) (into_self j), λ m i. absurd (Memᴰ.not-nil i))
join_moves_into j (m ∷ ms) {k} h =
    let r = join_moves_cons j m ms h in
    let b = both_into j m r.0 in
    let i = join_moves_into (both j m) ms r.1 in (
      into_trans b.0 i.0,
      λ n l. ⊎_elim (λ e. subst (λ (y : Move). Into (joins_of y) k) (sym e) (into_trans b.1 i.0)) (i.1 n) (Memᴰ.cases_cons l),
    )

-- orders that are 0 or o do not clash
pub join_moves_some : (o : ℕ) (j : Joins) (ms : List Move) → Fits o j.order → ((m : Move) → Memᴰ m ms → Fits o m.order)
    → (k : Joins) × (join_moves j ms ≡ some k) × Fits o k.order
unfolding join_moves
join_moves_some o j [] x f = (j, refl, x)
join_moves_some o j (m ∷ ms) x f =
    let y = f m (Memᴰ.head refl) in
    let r = join_moves_some o (both j m) ms (fits_max o x y) (λ n i. f n (Memᴰ.tail i)) in
    (r.0, rw (join_moves, join_move_both j m (fits_clash o x y)) r.1, r.2)

-- the order is one of theirs
pub join_moves_order : (j : Joins) (ms : List Move) {k : Joins} → join_moves j ms ≡ some k
    → (k.order ≡ j.order) ⊎ ((m : Move) × Memᴰ m ms × (k.order ≡ m.order))
join_moves_order j ms h =
    join_moves_keeps (λ k. (k.order ≡ j.order) ⊎ ((m : Move) × Memᴰ m ms × (k.order ≡ m.order))) j ms h (inl refl) (λ i m l c x.
    ⊎_elim (λ e. ⊎_map (λ y. e ∙ y) (λ y. (y.0, y.1, e ∙ y.2)) x) (λ e. inr (m, l, e)) (max_either i.order m.order))

-- all members of the joined sets have what all members of each have
pub join_moves_all : (P Q : ℕ → Type 0) (j : Joins) (ms : List Move) {k : Joins} → join_moves j ms ≡ some k → All j.B P × All j.R Q
    → ((m : Move) → Memᴰ m ms → All m.B P × All m.R Q) → All k.B P × All k.R Q
join_moves_all P Q j ms h x f = join_moves_keeps (λ k. All k.B P × All k.R Q) j ms h x (λ i m l c y.
    let z = f m l in (all_join y.0 z.0, all_join y.1 z.1))

-- B is empty exactly at order 0, and the order is at most 2
pub record AnnotationFacts (j : Joins) : Type 0 where
  pub order_small : j.order ≤ 2
  pub none_empty : j.order ≡ 0 → j.B ≡ 0
  pub empty_none : j.B ≡ 0 → j.order ≡ 0

-- the empty set, of order 0
pub annotation_none : (R : ℕ) → AnnotationFacts (record { order = 0; B = 0; R = R })
annotation_none R = record { order_small = omega arith; none_empty = λ e. refl; empty_none = λ e. refl }

-- a set with one member, of order 1 or 2
pub annotation_single : (k q : ℕ) → k ≤ 2 → (k ≡ 0 → ⊥) → AnnotationFacts (record { order = k; B = single q; R = 0 })
annotation_single k q l n =
    record {
      order_small = l;
      none_empty = λ e. absurd (n e);
      empty_none = λ e. absurd (has_empty (subst (λ (s : ℕ). Has s q) e (has_single q)));
    }

pub both_facts : (j : Joins) (m : Move) → AnnotationFacts j → AnnotationFacts (joins_of m) → AnnotationFacts (both j m)
both_facts j m x y =
    let a = x.order_small in
    let b = y.order_small in
    record {
      order_small = omega arith;
      none_empty = λ e.
          let k : j.order ≡ 0 = omega arith in
          let l : m.order ≡ 0 = omega arith in
          ap₂ join (x.none_empty k) (y.none_empty l) ∙ join_empty_left 0;
      empty_none = λ e.
          let z = join_zero j.B m.B e in
          let k : j.order ≡ 0 = x.empty_none z.0 in
          let l : m.order ≡ 0 = y.empty_none z.1 in
          omega arith;
    }

pub join_moves_facts : (j : Joins) (ms : List Move) {k : Joins} → join_moves j ms ≡ some k → AnnotationFacts j
    → ((m : Move) → Memᴰ m ms → AnnotationFacts (joins_of m)) → AnnotationFacts k
join_moves_facts j ms h x f = join_moves_keeps AnnotationFacts j ms h x (λ i m l c y. both_facts i m y (f m l))

-- ---- joins of moves by number

module _ (A : Automaton) where
  -- what is joined is a part of the joins
  pub join_all_into : (j : Joins) (ns : List ℕ) {k : Joins} → join_all A j ns ≡ some k → Into j k × ((i : ℕ) → Memᴰ i ns → Into (joins_of (move_at A i)) k)
  unfolding join_all
  join_all_into j ns h =
      let r = join_moves_into j (map (λ i. move_at A i) ns) h in
      (r.0, λ i l. r.1 (move_at A i) (Memᴰ.map (λ i. move_at A i) l))

  -- what holds of the moves of these numbers holds of the moves that are joined
  pub at_numbers : (X : Move → Type 0) (ns : List ℕ) → ((i : ℕ) → Memᴰ i ns → X (move_at A i)) → (m : Move) → Memᴰ m (map (λ i. move_at A i) ns) → X m
  at_numbers X ns f m l = let r = Memᴰ.of_map (λ i. move_at A i) ns l in subst X r.2 (f r.0 r.1)

  -- orders that are 0 or o do not clash
  pub join_all_some : (o : ℕ) (j : Joins) (ns : List ℕ) → Fits o j.order → ((i : ℕ) → Memᴰ i ns → Fits o (move_at A i).order)
      → (k : Joins) × (join_all A j ns ≡ some k) × Fits o k.order
  unfolding join_all
  join_all_some o j ns x f = join_moves_some o j (map (λ i. move_at A i) ns) x (at_numbers (λ m. Fits o m.order) ns f)

  -- all members of the joined sets have what all members of each have
  pub join_all_all : (P Q : ℕ → Type 0) (j : Joins) (ns : List ℕ) {k : Joins} → join_all A j ns ≡ some k → All j.B P × All j.R Q
      → ((i : ℕ) → Memᴰ i ns → All (move_at A i).B P × All (move_at A i).R Q) → All k.B P × All k.R Q
  unfolding join_all
  join_all_all P Q j ns h x f = join_moves_all P Q j (map (λ i. move_at A i) ns) h x (at_numbers (λ m. All m.B P × All m.R Q) ns f)

  pub join_all_facts : (j : Joins) (ns : List ℕ) {k : Joins} → join_all A j ns ≡ some k → AnnotationFacts j
      → ((i : ℕ) → Memᴰ i ns → AnnotationFacts (joins_of (move_at A i))) → AnnotationFacts k
  unfolding join_all
  join_all_facts j ns h x f = join_moves_facts j (map (λ i. move_at A i) ns) h x (at_numbers (λ m. AnnotationFacts (joins_of m)) ns f)

  -- ---- joins of edges by number

  -- the order-1 state of each edge is named, and its set is a part of the joined sets
  pub named_in : {e : ℕ} {es : List ℕ} → Memᴰ e es → Has (named A es) (edge_at A e).first
  unfolding named
  named_in {e} (Memᴰ.head {x = x} {xs = es} y) =
      has_join_left (named A es)
      (subst (λ (z : ℕ). Has (single (edge_at A x).first) (edge_at A z).first) (sym y) (has_single (edge_at A x).first))
  named_in (Memᴰ.tail {x = x} i) = has_join_right (single (edge_at A x).first) (named_in i)

  pub edge_sets_part : {e : ℕ} {es : List ℕ} → Memᴰ e es → part_of (edge_at A e).S (edge_sets A es) ≡ true
  unfolding edge_sets
  edge_sets_part {e} (Memᴰ.head {x = x} {xs = es} y) = rw y (part_join_left (edge_at A x).S (edge_sets A es))
  edge_sets_part {e} (Memᴰ.tail {x = x} {xs = es} i) =
      part_trans (edge_at A e).S (edge_sets A es) (join (edge_at A x).S (edge_sets A es)) (edge_sets_part i) (part_join_right (edge_at A x).S (edge_sets A es))

  -- and there is no other
  pub named_all : (P : ℕ → Type 0) (es : List ℕ) → ((e : ℕ) → Memᴰ e es → P (edge_at A e).first) → All (named A es) P
  unfolding named
  named_all P [] f = all_empty P
  named_all P (e ∷ es) f = all_join (all_single P (edge_at A e).first (f e (Memᴰ.head refl))) (named_all P es (λ x i. f x (Memᴰ.tail i)))

  pub edge_sets_all : (P : ℕ → Type 0) (es : List ℕ) → ((e : ℕ) → Memᴰ e es → All (edge_at A e).S P) → All (edge_sets A es) P
  unfolding edge_sets
  edge_sets_all P [] f = all_empty P
  edge_sets_all P (e ∷ es) f = all_join (f e (Memᴰ.head refl)) (edge_sets_all P es (λ x i. f x (Memᴰ.tail i)))
