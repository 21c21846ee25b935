-- What holds of the order of lists of numbers, and of lists sorted by such a key.
-- Assumes nothing.
use Rattle.std.specs.Prelude.{ℕ, ◌<◌, ◌≤◌, Bool, ◌≡◌, ◌⊎◌, eqb, ltb}
use Rattle.std.proofs.Math.Bool.{true, false}
use Rattle.std.proofs.lemmas.Bool.{false≢true, eqb-false}
use Rattle.std.proofs.Math.Path.{refl, ap, ap₂, sym}
use Rattle.std.proofs.Common.{◌∙◌, arith, lt-ltb, le-ltb, ltb-true, ltb-false, eqb-true, eq-eqb, ne_eqb}
use Rattle.std.proofs.Math.Logic.{inl, inr, ⊎_elim}
use mathlib.Core.List.Memᴰ
use mathlib.Core.List.{List, [], ◌∷◌, ◌++◌, map}
use mathlib.Core.List.{Memᴰ}
use Rattle.std.proofs.Math.Arith.{lt_of_le-ne}
use Rattle.words.specs.Laws.Tests.{by_test}
use Rattle.words.specs.Lists.{only}
use Rattle.words.specs.Order.{less, same, insert, sorted, rising_from, rising}

-- ---- the order

pub less_lt : (x y : ℕ) (xs ys : List ℕ) → x < y → less (x ∷ xs) (y ∷ ys) ≡ true
unfolding less
less_lt x y xs ys h = rw (less, lt-ltb x y h)

pub less_eq : (x y : ℕ) (xs ys : List ℕ) → x ≡ y → less (x ∷ xs) (y ∷ ys) ≡ less xs ys
unfolding less
less_eq x y xs ys h = let l : y ≤ x = omega arith in rw (less, le-ltb x y l, eq-eqb x y h)

pub less_gt : (x y : ℕ) (xs ys : List ℕ) → y < x → less (x ∷ xs) (y ∷ ys) ≡ false
unfolding less
less_gt x y xs ys h =
    let l : y ≤ x = omega arith in
    let n : x ≡ y → ⊥ = omega arith in
    rw (less, le-ltb x y l, ne_eqb x y n)

pub number_cases : (x y : ℕ) → (x < y) ⊎ ((x ≡ y) ⊎ (y < x))
number_cases x y = by_test (ltb x y)
    (λ e. inl (ltb-true x y e))
    (λ e. inr (by_test (eqb x y) (λ f. inl (eqb-true x y f)) (λ f. inr (lt_of_le-ne (ltb-false x y e) (λ q. eqb-false x y f (sym q))))))

pub less_cons : (x y : ℕ) (xs ys : List ℕ) → less (x ∷ xs) (y ∷ ys) ≡ true → (x < y) ⊎ ((x ≡ y) × (less xs ys ≡ true))
less_cons x y xs ys h = go (number_cases x y)
  where
    go : (x < y) ⊎ ((x ≡ y) ⊎ (y < x)) → (x < y) ⊎ ((x ≡ y) × (less xs ys ≡ true))
    go (inl l) = inl l
    go (inr (inl e)) = inr (e, sym (less_eq x y xs ys e) ∙ h)
    go (inr (inr g)) = absurd (false≢true (sym (less_gt x y xs ys g) ∙ h))

pub less_irreflexive : (k : List ℕ) → less k k ≡ false
unfolding less
less_irreflexive [] = refl
less_irreflexive (x ∷ xs) = less_eq x x xs xs refl ∙ less_irreflexive xs

pub less_transitive : (k l m : List ℕ) → less k l ≡ true → less l m ≡ true → less k m ≡ true
unfolding less
less_transitive [] [] m p q = q
less_transitive [] (y ∷ ys) [] p q = q
less_transitive [] (y ∷ ys) (z ∷ zs) p q = refl
less_transitive (x ∷ xs) [] m p q = absurd (false≢true p)
less_transitive (x ∷ xs) (y ∷ ys) [] p q = q
less_transitive (x ∷ xs) (y ∷ ys) (z ∷ zs) p q = go (less_transitive xs ys zs) (less_cons x y xs ys p) (less_cons y z ys zs q)
  where
    go : (less xs ys ≡ true → less ys zs ≡ true → less xs zs ≡ true)
        → (x < y) ⊎ ((x ≡ y) × (less xs ys ≡ true)) → (y < z) ⊎ ((y ≡ z) × (less ys zs ≡ true)) → less (x ∷ xs) (z ∷ zs) ≡ true
    go below (inl a) (inl b) = less_lt x z xs zs (omega arith)
    go below (inl a) (inr b) = less_lt x z xs zs (omega arith)
    go below (inr a) (inl b) = less_lt x z xs zs (omega arith)
    go below (inr a) (inr b) = less_eq x z xs zs (a.0 ∙ b.0) ∙ below a.1 b.1

pub less_differs : (k l : List ℕ) → less k l ≡ true → k ≡ l → ⊥
less_differs k l h e = false≢true (sym (less_irreflexive l) ∙ (rw e at h))

pub less_asymmetric : (k l : List ℕ) → less k l ≡ true → less l k ≡ false
less_asymmetric k l h = by_test (less l k) (λ e. absurd (false≢true (sym (less_irreflexive k) ∙ less_transitive k l k h e))) (λ e. e)

pub less_cases : (k l : List ℕ) → (less k l ≡ true) ⊎ ((k ≡ l) ⊎ (less l k ≡ true))
unfolding less
less_cases [] [] = inr (inl refl)
less_cases [] (y ∷ ys) = inl refl
less_cases (x ∷ xs) [] = inr (inr refl)
less_cases (x ∷ xs) (y ∷ ys) = go (number_cases x y) (less_cases xs ys)
  where
    go : (x < y) ⊎ ((x ≡ y) ⊎ (y < x)) → (less xs ys ≡ true) ⊎ ((xs ≡ ys) ⊎ (less ys xs ≡ true))
        → (less (x ∷ xs) (y ∷ ys) ≡ true) ⊎ ((x ∷ xs ≡ y ∷ ys) ⊎ (less (y ∷ ys) (x ∷ xs) ≡ true))
    go (inl a) t = inl (less_lt x y xs ys a)
    go (inr (inr a)) t = inr (inr (less_lt y x ys xs a))
    go (inr (inl e)) (inl a) = inl (less_eq x y xs ys e ∙ a)
    go (inr (inl e)) (inr (inl a)) = inr (inl (ap₂ (λ (n : ℕ) (l : List ℕ). n ∷ l) e a))
    go (inr (inl e)) (inr (inr a)) = inr (inr (less_eq y x ys xs (sym e) ∙ a))

pub less_neither : (k l : List ℕ) → less k l ≡ false → less l k ≡ false → k ≡ l
less_neither k l p q = ⊎_elim (λ a. absurd (false≢true (sym p ∙ a))) (λ t. ⊎_elim (λ e. e) (λ a. absurd (false≢true (sym q ∙ a))) t) (less_cases k l)

-- ---- equality

pub same_eq : (k l : List ℕ) → same k l ≡ true → k ≡ l
unfolding same
same_eq [] [] h = refl
same_eq [] (y ∷ ys) h = absurd (false≢true h)
same_eq (x ∷ xs) [] h = absurd (false≢true h)
same_eq (x ∷ xs) (y ∷ ys) h = by_test (eqb x y)
    (λ e. ap₂ (λ (n : ℕ) (l : List ℕ). n ∷ l) (eqb-true x y e) (same_eq xs ys (rw (same, e) at h)))
    (λ e. absurd (false≢true (rw (same, e) at h)))

pub same_refl : (k : List ℕ) → same k k ≡ true
unfolding same
same_refl [] = refl
same_refl (x ∷ xs) = rw (same, eq-eqb x x refl) (same_refl xs)

pub eq_same : (k l : List ℕ) → k ≡ l → same k l ≡ true
eq_same k l e = rw e (same_refl l)

pub differs_same : (k l : List ℕ) → (k ≡ l → ⊥) → same k l ≡ false
differs_same k l h = by_test (same k l) (λ e. absurd (h (same_eq k l e))) (λ e. e)

-- ---- keys of one number

pub less_one : (x y : ℕ) → x < y → less (x ∷ []) (y ∷ []) ≡ true
less_one x y h = less_lt x y [] [] h

pub one_less : (x y : ℕ) → less (x ∷ []) (y ∷ []) ≡ true → x < y
one_less x y h = ⊎_elim (λ l. l) (λ p. absurd (false≢true (sym (less_irreflexive []) ∙ p.1))) (less_cons x y [] [] h)

-- ---- rising lists

module _ {A : Type 0} (key : A → List ℕ) where
  pub rising_from_cons : (x y : A) (l : List A) → less (key x) (key y) ≡ true → rising_from key y l ≡ true → rising_from key x (y ∷ l) ≡ true
  unfolding rising_from
  rising_from_cons x y l h r = rw (h, rising_from) r

  pub rising_from_parts : (x y : A) (l : List A) → rising_from key x (y ∷ l) ≡ true → (less (key x) (key y) ≡ true) × (rising_from key y l ≡ true)
  unfolding rising_from
  rising_from_parts x y l r = by_test (less (key x) (key y)) (λ e. (e, rw (rising_from, e) at r)) (λ e. absurd (false≢true (rw (rising_from, e) at r)))

  pub rising_cons : (x : A) (l : List A) → rising key (x ∷ l) ≡ rising_from key x l
  unfolding rising
  rising_cons x l = refl

  pub rising_tail : (x : A) (l : List A) → rising_from key x l ≡ true → rising key l ≡ true
  unfolding rising
  rising_tail x [] r = refl
  rising_tail x (y ∷ l) r = (rising_from_parts x y l r).1

  pub rising_from_less : (x : A) (l : List A) {y : A} → rising_from key x l ≡ true → Memᴰ y l → less (key x) (key y) ≡ true
  rising_from_less x [] r j = absurd (Memᴰ.not-nil j)
  rising_from_less x (z ∷ l) {y} r j =
      let p = rising_from_parts x z l r in
      ⊎_elim (λ e. rw e p.0) (λ i. less_transitive (key x) (key z) (key y) p.0 (rising_from_less z l p.1 i)) (Memᴰ.cases_cons j)

  pub less_rising_from : (x : A) (l : List A) → ((y : A) → Memᴰ y l → less (key x) (key y) ≡ true) → rising key l ≡ true → rising_from key x l ≡ true
  unfolding rising rising_from
  less_rising_from x [] h r = refl
  less_rising_from x (y ∷ l) h r = rising_from_cons x y l (h y (Memᴰ.head refl)) r

  pub rising_from_weaken : (x y : A) (l : List A) → less (key x) (key y) ≡ true → rising_from key y l ≡ true → rising_from key x l ≡ true
  rising_from_weaken x y l h r =
      less_rising_from x l (λ z j. less_transitive (key x) (key y) (key z) h (rising_from_less y l r j)) (rising_tail y l r)

  pub rising_append : (xs ys : List A) → rising key xs ≡ true → rising key ys ≡ true
      → ((x y : A) → Memᴰ x xs → Memᴰ y ys → less (key x) (key y) ≡ true) → rising key (xs ++ ys) ≡ true
  unfolding rising
  rising_append [] ys p q h = q
  rising_append (x ∷ xs) ys p q h = less_rising_from x (xs ++ ys)
      (λ y j. ⊎_elim (λ i. rising_from_less x xs p i) (λ i. h x y (Memᴰ.head refl) i) (Memᴰ.append_cases xs j))
      (rising_append xs ys (rising_tail x xs p) q (λ y z i j. h y z (Memᴰ.tail i) j))

  pub append_rising_left : (xs ys : List A) → rising key (xs ++ ys) ≡ true → rising key xs ≡ true
  unfolding rising
  append_rising_left [] ys r = refl
  append_rising_left (x ∷ xs) ys r = less_rising_from x xs
      (λ y j. rising_from_less x (xs ++ ys) r (Memᴰ.append_left ys j)) (append_rising_left xs ys (rising_tail x (xs ++ ys) r))

  pub append_rising_less : {x : A} {xs : List A} (ys : List A) {y : A} → rising key (xs ++ ys) ≡ true → Memᴰ x xs → Memᴰ y ys → less (key x) (key y) ≡ true
  unfolding rising
  append_rising_less {x} ys {y} r (Memᴰ.head {x = z} {xs = zs} e) j = rw e (rising_from_less z (zs ++ ys) r (Memᴰ.append_right zs j))
  append_rising_less ys r (Memᴰ.tail {x = z} {xs = zs} i) j = append_rising_less ys (rising_tail z (zs ++ ys) r) i j

  -- a loop that appends a greater element
  pub rising_snoc : (xs : List A) (y : A) → rising key xs ≡ true → ((x : A) → Memᴰ x xs → less (key x) (key y) ≡ true) → rising key (xs ++ y ∷ []) ≡ true
  unfolding rising rising_from
  rising_snoc xs y r h = rising_append xs (y ∷ []) r refl (λ x z i j. rw (Memᴰ.eq_of_singleton j) (h x i))

  pub rising_from_only : (test : A → Bool) (x : A) (l : List A) → rising_from key x l ≡ true → rising_from key x (only test l) ≡ true
  unfolding rising_from only
  rising_from_only test x [] r = refl
  rising_from_only test x (y ∷ l) r =
      let p = rising_from_parts x y l r in
      by_test (test y)
      (λ e. rw (only, e) (rising_from_cons x y (only test l) p.0 (rising_from_only test y l p.1)))
      (λ e. rw (only, e) (rising_from_only test x l (rising_from_weaken x y l p.0 p.1)))

  pub rising_only : (test : A → Bool) (l : List A) → rising key l ≡ true → rising key (only test l) ≡ true
  unfolding rising only
  rising_only test [] r = refl
  rising_only test (x ∷ l) r = by_test (test x)
      (λ e. rw (only, e) (rising_from_only test x l r))
      (λ e. rw (only, e) (rising_only test l (rising_tail x l r)))

  -- the elements and their order determine the list
  pub rising_unique : (l k : List A) → rising key l ≡ true → rising key k ≡ true
      → ((x : A) → Memᴰ x l → Memᴰ x k) → ((x : A) → Memᴰ x k → Memᴰ x l) → l ≡ k
  unfolding rising
  rising_unique [] [] p q f g = refl
  rising_unique [] (y ∷ ys) p q f g = absurd (Memᴰ.not-nil (g y (Memᴰ.head refl)))
  rising_unique (x ∷ xs) [] p q f g = absurd (Memᴰ.not-nil (f x (Memᴰ.head refl)))
  rising_unique (x ∷ xs) (y ∷ ys) p q f g = ap₂ (λ (z : A) (l : List A). z ∷ l) heads
      (rising_unique xs ys (rising_tail x xs p) (rising_tail y ys q) forth back)
    where
      apart : (z : A) (l : List A) → rising_from key z l ≡ true → Memᴰ z l → ⊥
      apart z l r j = less_differs (key z) (key z) (rising_from_less z l r j) refl

      heads : x ≡ y
      heads = ⊎_elim (λ e. e) (λ i. ⊎_elim (λ e. sym e)
          (λ j. absurd (false≢true (sym (less_asymmetric (key x) (key y) (rising_from_less x xs p j)) ∙ rising_from_less y ys q i)))
          (Memᴰ.cases_cons (g y (Memᴰ.head refl)))) (Memᴰ.cases_cons (f x (Memᴰ.head refl)))

      forth : (z : A) → Memᴰ z xs → Memᴰ z ys
      forth z j = ⊎_elim (λ e. absurd (apart x xs p (Memᴰ.cast (heads ∙ sym e) j))) (λ i. i) (Memᴰ.cases_cons (f z (Memᴰ.tail j)))

      back : (z : A) → Memᴰ z ys → Memᴰ z xs
      back z j = ⊎_elim (λ e. absurd (apart y ys q (Memᴰ.cast (sym heads ∙ sym e) j))) (λ i. i) (Memᴰ.cases_cons (g z (Memᴰ.tail j)))

  -- ---- insert

  pub insert_before : (x y : A) (l : List A) → less (key x) (key y) ≡ true → insert key x (y ∷ l) ≡ x ∷ y ∷ l
  unfolding insert
  insert_before x y l h = rw (insert, h)

  pub insert_after : (x y : A) (l : List A) → less (key y) (key x) ≡ true → insert key x (y ∷ l) ≡ y ∷ insert key x l
  unfolding insert
  insert_after x y l h = rw (insert, less_asymmetric (key y) (key x) h, h)

  pub insert_held : (x y : A) (l : List A) → key x ≡ key y → insert key x (y ∷ l) ≡ y ∷ l
  unfolding insert
  insert_held x y l h =
      let p : less (key x) (key y) ≡ false = ap (less (key x)) (sym h) ∙ less_irreflexive (key x) in
      let q : less (key y) (key x) ≡ false = ap (less (key y)) h ∙ less_irreflexive (key y) in
      rw (insert, p, q)

  -- where x goes in y ∷ l
  pub by_place : (x y : A) {X : Type 0} → (less (key x) (key y) ≡ true → X) → (key x ≡ key y → X) → (less (key y) (key x) ≡ true → X) → X
  by_place x y f g h = ⊎_elim f (λ t. ⊎_elim g h t) (less_cases (key x) (key y))

  pub insert_out : (x : A) (l : List A) {y : A} → Memᴰ y (insert key x l) → (y ≡ x) ⊎ Memᴰ y l
  unfolding insert
  insert_out x [] j = inl (Memᴰ.eq_of_singleton j)
  insert_out x (z ∷ l) {y} j = by_place x z
      (λ h. Memᴰ.cases_cons (rw (insert_before x z l h) at j))
      (λ h. inr (rw (insert_held x z l h) at j))
      (λ h. ⊎_elim (λ e. inr (Memᴰ.head e)) (λ i. ⊎_elim (λ e. inl e) (λ k. inr (Memᴰ.tail k)) (insert_out x l i))
      (Memᴰ.cases_cons (rw (insert_after x z l h) at j)))

  pub insert_in : (x : A) {y : A} {l : List A} → Memᴰ y l → Memᴰ y (insert key x l)
  insert_in x (Memᴰ.head {x = z} {xs = l} e) = by_place x z
      (λ h. rw (insert_before x z l h) (Memᴰ.tail (Memᴰ.head e)))
      (λ h. rw (insert_held x z l h) (Memᴰ.head e))
      (λ h. rw (insert_after x z l h) (Memᴰ.head e))
  insert_in x (Memᴰ.tail {x = z} {xs = l} j) = by_place x z
      (λ h. rw (insert_before x z l h) (Memᴰ.tail (Memᴰ.tail j)))
      (λ h. rw (insert_held x z l h) (Memᴰ.tail j))
      (λ h. rw (insert_after x z l h) (Memᴰ.tail (insert_in x j)))

  pub insert_key : (x : A) (l : List A) → (y : A) × Memᴰ y (insert key x l) × (key y ≡ key x)
  unfolding insert
  insert_key x [] = (x, Memᴰ.head refl, refl)
  insert_key x (z ∷ l) = by_place x z
      (λ h. (x, rw (insert_before x z l h) (Memᴰ.head refl), refl))
      (λ h. (z, rw (insert_held x z l h) (Memᴰ.head refl), sym h))
      (λ h. let r = insert_key x l in (r.0, rw (insert_after x z l h) (Memᴰ.tail r.1), r.2))

  pub rising_from_insert : (z x : A) (l : List A) → less (key z) (key x) ≡ true → rising_from key z l ≡ true → rising_from key z (insert key x l) ≡ true
  unfolding insert rising_from
  rising_from_insert z x [] h r = rising_from_cons z x [] h refl
  rising_from_insert z x (y ∷ l) h r =
      let p = rising_from_parts z y l r in
      by_place x y
      (λ b. rw (insert_before x y l b) (rising_from_cons z x (y ∷ l) h (rising_from_cons x y l b p.1)))
      (λ b. rw (insert_held x y l b) r)
      (λ b. rw (insert_after x y l b) (rising_from_cons z y (insert key x l) p.0 (rising_from_insert y x l b p.1)))

  pub insert_rising : (x : A) (l : List A) → rising key l ≡ true → rising key (insert key x l) ≡ true
  unfolding insert rising rising_from
  insert_rising x [] r = refl
  insert_rising x (y ∷ l) r = by_place x y
      (λ b. rw (insert_before x y l b) (rising_from_cons x y l b r))
      (λ b. rw (insert_held x y l b) r)
      (λ b. rw (insert_after x y l b) (rising_from_insert y x l b r))

  -- ---- sorted

  pub sorted_rising : (l : List A) → rising key (sorted key l) ≡ true
  unfolding sorted rising
  sorted_rising [] = refl
  sorted_rising (x ∷ l) = insert_rising x (sorted key l) (sorted_rising l)

  pub sorted_out : (l : List A) {y : A} → Memᴰ y (sorted key l) → Memᴰ y l
  unfolding sorted
  sorted_out [] j = j
  sorted_out (x ∷ l) j = ⊎_elim (λ e. Memᴰ.head e) (λ i. Memᴰ.tail (sorted_out l i)) (insert_out x (sorted key l) j)

  pub sorted_in : {x : A} {l : List A} → Memᴰ x l → (y : A) × Memᴰ y (sorted key l) × (key y ≡ key x)
  unfolding sorted
  sorted_in (Memᴰ.head {x = z} {xs = l} e) = let r = insert_key z (sorted key l) in (r.0, r.1, r.2 ∙ ap key (sym e))
  sorted_in (Memᴰ.tail {x = z} {xs = l} j) = let r = sorted_in j in (r.0, insert_in z r.1, r.2)

  pub sorted_of_rising : (l : List A) → rising key l ≡ true → sorted key l ≡ l
  unfolding sorted insert rising
  sorted_of_rising [] r = refl
  sorted_of_rising (x ∷ l) r = ap (insert key x) (sorted_of_rising l (rising_tail x l r)) ∙ first l r
    where
      first : (l : List A) → rising_from key x l ≡ true → insert key x l ≡ x ∷ l
      first [] r = refl
      first (y ∷ l) r = insert_before x y l (rising_from_parts x y l r).0

  -- where the key determines the element
  module _ (injective : (x y : A) → key x ≡ key y → x ≡ y) where
    pub sorted_keeps : {l : List A} {x : A} → Memᴰ x l → Memᴰ x (sorted key l)
    sorted_keeps {x = x} j = let r = sorted_in j in Memᴰ.cast (sym (injective r.0 x r.2)) r.1

    pub sorted_same : (l k : List A) → ((x : A) → Memᴰ x l → Memᴰ x k) → ((x : A) → Memᴰ x k → Memᴰ x l) → sorted key l ≡ sorted key k
    sorted_same l k f g = rising_unique (sorted key l) (sorted key k) (sorted_rising l) (sorted_rising k)
        (λ x j. sorted_keeps (f x (sorted_out l j))) (λ x j. sorted_keeps (g x (sorted_out k j)))

    -- the only rising list of the elements of l
    pub sorted_unique : (l k : List A) → rising key k ≡ true
        → ((x : A) → Memᴰ x l → Memᴰ x k) → ((x : A) → Memᴰ x k → Memᴰ x l) → sorted key l ≡ k
    sorted_unique l k r f g = sorted_same l k f g ∙ sorted_of_rising k r

-- ---- rising lists of numbers, and of what a map gives

module _ {A B : Type 0} (key : B → List ℕ) (f : A → B) where
  pub rising_from_map : (x : A) (l : List A) → rising_from key (f x) (map f l) ≡ rising_from (λ y. key (f y)) x l
  unfolding rising_from
  rising_from_map x [] = refl
  rising_from_map x (y ∷ l) = by_test (less (key (f x)) (key (f y))) (λ e. rw (rising_from, e) (rising_from_map y l)) (λ e. rw (rising_from, e))

  pub rising_map : (l : List A) → rising key (map f l) ≡ rising (λ x. key (f x)) l
  unfolding rising
  rising_map [] = refl
  rising_map (x ∷ l) = rising_from_map x l
