-- What holds of the lists of Lists.antt. Membership is data: `Memᴰ x l` is a place of x in l.
-- Assumes nothing.
use Prim.Native.Nat.{ℕ, zero, suc, ◌+◌, ◌-◌, ◌*◌, ◌<◌, ◌≤◌, suc-le-suc}
use Rattle.std.specs.Prelude.{Bool, ◌||◌, ◌≡◌, ◌⊎◌, get_or, take, drop, replicate, ltb}
use Rattle.std.proofs.Math.Bool.{true, false, not, ◌&&◌, and_assoc, or-true}
use Rattle.std.proofs.lemmas.Bool.{false≢true}
use Rattle.std.proofs.Math.Path.{refl, ap, ap₂, sym}
use Rattle.std.proofs.Common.{◌∙◌, subst, inl, inr, not-suc-le-zero, le_of_suc-le-suc, add-zero, length-append, take-suc, length-take-le, ltb-true, ltb-false}
use Rattle.std.proofs.Math.Logic.{⊎_elim}
use Rattle.std.proofs.Math.Option.{Option, some, some-injective, none-ne-some, some-ne-none}
use mathlib.Core.List.Memᴰ
use mathlib.Core.List.{List, [], ◌∷◌, ◌++◌, map, append-nil, append_assoc}
use mathlib.Core.List.{Memᴰ}
use Rattle.std.proofs.Math.Nat.{zero-add, sub-zero}
use native.Mathlib.Omega.{arith}
use Rattle.std.proofs.Math.ListN.{length, get_elem?, get_or-append}
use Rattle.std.proofs.lemmas.List.{length-replicate, get_or_at}
use Rattle.std.proofs.Math.Seq.{drop-nil}
use Rattle.words.specs.Order.{rising, rising_from}
use Rattle.words.specs.Order.Laws.{less_one, rising_from_cons}
use Rattle.words.specs.Laws.Tests.{by_test, and_left, and_right, equal_tests}
use Rattle.words.specs.Lists.{zeros, each, when, only, every, some_of, first, places_from, places}

-- ---- zeros

pub length_zeros : (n : ℕ) → length (zeros n) ≡ n
length_zeros n = length-replicate n 0

pub drop_zeros : (k n : ℕ) → drop k (zeros n) ≡ zeros (n - k)
drop_zeros zero n = ap (λ (m : ℕ). replicate m 0) (sym (sub-zero n))
drop_zeros (suc k) zero = drop-nil (suc k) ∙ ap (λ (m : ℕ). replicate m 0) (let z : 0 ≡ 0 - suc k = omega arith in z)
drop_zeros (suc k) (suc n) = drop_zeros k n ∙ ap (λ (m : ℕ). replicate m 0) (let z : n - k ≡ suc n - suc k = omega arith in z)

-- ---- each

module _ {A B : Type 0} where
  pub each_in : (f : A → List B) {x : A} {l : List A} {y : B} → Memᴰ x l → Memᴰ y (f x) → Memᴰ y (each l f)
  unfolding each
  each_in f {y = y} (Memᴰ.head {xs = xs} e) j = Memᴰ.append_left (each xs f) (subst (λ (z : A). Memᴰ y (f z)) e j)
  each_in f (Memᴰ.tail {x = z} i) j = Memᴰ.append_right (f z) (each_in f i j)

  pub each_out : (l : List A) (f : A → List B) {y : B} → Memᴰ y (each l f) → (x : A) × Memᴰ x l × Memᴰ y (f x)
  unfolding each
  each_out [] f j = absurd (Memᴰ.not-nil j)
  each_out (x ∷ xs) f j =
      ⊎_elim (λ i. (x, Memᴰ.head refl, i)) (λ i. let r = each_out xs f i in (r.0, Memᴰ.tail r.1, r.2)) (Memᴰ.append_cases (f x) j)

  pub each_append : (xs ys : List A) (f : A → List B) → each (xs ++ ys) f ≡ each xs f ++ each ys f
  unfolding each
  each_append [] ys f = refl
  each_append (x ∷ xs) ys f = ap (λ (l : List B). f x ++ l) (each_append xs ys f) ∙ sym (append_assoc (f x) (each xs f) (each ys f))

  pub each_one : (x : A) (f : A → List B) → each (x ∷ []) f ≡ f x
  unfolding each
  each_one x f = append-nil (f x)

  -- one more turn of a loop over l
  pub each_take : (l : List A) (i : ℕ) (d : A) (f : A → List B) → i < length l → each (take (suc i) l) f ≡ each (take i l) f ++ f (get_or l i d)
  each_take l i d f h =
      ap (λ (k : List A). each k f) (take-suc l i d h) ∙ each_append (take i l) (get_or l i d ∷ []) f ∙ ap (λ (k : List B). each (take i l) f ++ k) (each_one (get_or l i d) f)

  pub each_same : (l : List A) (f g : A → List B) → ((x : A) → Memᴰ x l → f x ≡ g x) → each l f ≡ each l g
  unfolding each
  each_same [] f g h = refl
  each_same (x ∷ xs) f g h = ap₂ (λ (a b : List B). a ++ b) (h x (Memᴰ.head refl)) (each_same xs f g (λ y i. h y (Memᴰ.tail i)))

  pub each_none : (l : List A) (f : A → List B) → ((x : A) → Memᴰ x l → f x ≡ []) → each l f ≡ []
  unfolding each
  each_none [] f h = refl
  each_none (x ∷ xs) f h = rw (h x (Memᴰ.head refl)) (each_none xs f (λ y i. h y (Memᴰ.tail i)))

  pub each_single : (g : A → B) (l : List A) → each l (λ x. g x ∷ []) ≡ map g l
  unfolding each
  each_single g [] = refl
  each_single g (x ∷ xs) = ap (λ (r : List B). g x ∷ r) (each_single g xs)

module _ {A B C : Type 0} where
  pub each_map : (g : A → B) (l : List A) (f : B → List C) → each (map g l) f ≡ each l (λ x. f (g x))
  unfolding each
  each_map g [] f = refl
  each_map g (x ∷ xs) f = ap (λ (r : List C). f (g x) ++ r) (each_map g xs f)

  pub each_each : (l : List A) (f : A → List B) (g : B → List C) → each (each l f) g ≡ each l (λ x. each (f x) g)
  unfolding each
  each_each [] f g = refl
  each_each (x ∷ xs) f g = each_append (f x) (each xs f) g ∙ ap (λ (r : List C). each (f x) g ++ r) (each_each xs f g)

-- ---- when and only

module _ {A : Type 0} where
  pub when_in : (t : Bool) {l : List A} {y : A} → t ≡ true → Memᴰ y l → Memᴰ y (when t l)
  unfolding when
  when_in true e j = j
  when_in false e j = absurd (false≢true e)

  pub when_out : (t : Bool) (l : List A) {y : A} → Memᴰ y (when t l) → (t ≡ true) × Memᴰ y l
  unfolding when
  when_out true l j = (refl, j)
  when_out false l j = absurd (Memᴰ.not-nil j)

  pub only_yes : (test : A → Bool) (x : A) (xs : List A) → test x ≡ true → only test (x ∷ xs) ≡ x ∷ only test xs
  unfolding only
  only_yes test x xs e = rw (only, e)

  pub only_no : (test : A → Bool) (x : A) (xs : List A) → test x ≡ false → only test (x ∷ xs) ≡ only test xs
  unfolding only
  only_no test x xs e = rw (only, e)

  pub length_only : (test : A → Bool) (l : List A) → length (only test l) ≤ length l
  unfolding only
  length_only test [] = omega arith
  length_only test (x ∷ l) = by_test (test x)
      (λ e. let a : length (only test l) ≤ length l = length_only test l in rw (only_yes test x l e) (omega arith))
      (λ e. let a : length (only test l) ≤ length l = length_only test l in rw (only_no test x l e) (omega arith))

  pub only_each : (test : A → Bool) (l : List A) → only test l ≡ each l (λ x. when (test x) (x ∷ []))
  unfolding only each when
  only_each test [] = refl
  only_each test (x ∷ xs) = by_test (test x)
      (λ e. only_yes test x xs e ∙ rw (e, when) (ap (λ (l : List A). x ∷ l) (only_each test xs)))
      (λ e. only_no test x xs e ∙ rw (e, when) (only_each test xs))

  pub only_in : (test : A → Bool) {l : List A} {x : A} → Memᴰ x l → test x ≡ true → Memᴰ x (only test l)
  only_in test {l} {x} i e = rw (only_each test l) (each_in (λ (z : A). when (test z) (z ∷ [])) i (when_in (test x) e (Memᴰ.head refl)))

  pub only_out : (test : A → Bool) (l : List A) {x : A} → Memᴰ x (only test l) → Memᴰ x l × (test x ≡ true)
  only_out test l {x} j =
      let r = each_out l (λ (z : A). when (test z) (z ∷ [])) (rw (only_each test l) at j) in
      let w = when_out (test r.0) (r.0 ∷ []) r.2 in
      let e : x ≡ r.0 = Memᴰ.eq_of_singleton w.1 in
      (Memᴰ.cast e r.1, ap test e ∙ w.0)

  pub only_append : (test : A → Bool) (xs ys : List A) → only test (xs ++ ys) ≡ only test xs ++ only test ys
  only_append test xs ys =
      only_each test (xs ++ ys) ∙ each_append xs ys (λ z. when (test z) (z ∷ [])) ∙ ap₂ ◌++◌ (sym (only_each test xs)) (sym (only_each test ys))

-- ---- every and some

module _ {A : Type 0} where
  pub every_cons : (test : A → Bool) (x : A) (xs : List A) → every test (x ∷ xs) ≡ test x && every test xs
  unfolding every
  every_cons test x xs = by_test (test x) (λ e. rw (every, e)) (λ e. rw (every, e))

  pub some_of_cons : (test : A → Bool) (x : A) (xs : List A) → some_of test (x ∷ xs) ≡ test x || some_of test xs
  unfolding some_of
  some_of_cons test x xs = by_test (test x) (λ e. rw (some_of, e)) (λ e. rw (some_of, e))

  pub every_append : (test : A → Bool) (xs ys : List A) → every test (xs ++ ys) ≡ every test xs && every test ys
  unfolding every
  every_append test [] ys = refl
  every_append test (x ∷ xs) ys =
      every_cons test x (xs ++ ys) ∙ ap (λ (t : Bool). test x && t) (every_append test xs ys)
      ∙ sym (and_assoc (test x) (every test xs) (every test ys)) ∙ ap (λ (t : Bool). t && every test ys) (sym (every_cons test x xs))

  pub every_in : (test : A → Bool) {x : A} {l : List A} → every test l ≡ true → Memᴰ x l → test x ≡ true
  every_in test h (Memᴰ.head {x = z} {xs = zs} e) = ap test e ∙ and_left (test z) (every test zs) (sym (every_cons test z zs) ∙ h)
  every_in test h (Memᴰ.tail {x = z} {xs = zs} i) = every_in test (and_right (test z) (every test zs) (sym (every_cons test z zs) ∙ h)) i

  pub in_every : (test : A → Bool) (l : List A) → ((x : A) → Memᴰ x l → test x ≡ true) → every test l ≡ true
  unfolding every
  in_every test [] h = refl
  in_every test (x ∷ xs) h = every_cons test x xs ∙ ap₂ ◌&&◌ (h x (Memᴰ.head refl)) (in_every test xs (λ y i. h y (Memᴰ.tail i)))

  pub every_both : (f g : A → Bool) (xs : List A) → every (λ x. f x && g x) xs ≡ every f xs && every g xs
  every_both f g xs = equal_tests _ _
      (λ t. ap₂ ◌&&◌
      (in_every f xs (λ x i. and_left (f x) (g x) (every_in (λ (y : A). f y && g y) t i)))
      (in_every g xs (λ x i. and_right (f x) (g x) (every_in (λ (y : A). f y && g y) t i))))
      (λ t. in_every _ xs (λ x i. ap₂ ◌&&◌
      (every_in f (and_left (every f xs) (every g xs) t) i)
      (every_in g (and_right (every f xs) (every g xs) t) i)))

  pub some_of_in : (test : A → Bool) {x : A} {l : List A} → Memᴰ x l → test x ≡ true → some_of test l ≡ true
  some_of_in test (Memᴰ.head {x = z} {xs = zs} e) h = some_of_cons test z zs ∙ ap (λ (t : Bool). t || some_of test zs) (sym (ap test e) ∙ h)
  some_of_in test (Memᴰ.tail {x = z} {xs = zs} i) h =
      some_of_cons test z zs ∙ ap (λ (t : Bool). test z || t) (some_of_in test i h) ∙ or-true (test z)

  pub some_of_out : (test : A → Bool) (l : List A) → some_of test l ≡ true → (x : A) × Memᴰ x l × (test x ≡ true)
  unfolding some_of
  some_of_out test [] h = absurd (false≢true h)
  some_of_out test (x ∷ xs) h = by_test (test x)
      (λ e. (x, Memᴰ.head refl, e))
      (λ e. let r = some_of_out test xs (ap (λ (t : Bool). t || some_of test xs) (sym e) ∙ sym (some_of_cons test x xs) ∙ h) in (r.0, Memᴰ.tail r.1, r.2))

-- ---- the first

module _ {A : Type 0} where
  pub first_yes : (test : A → Bool) (x : A) (xs : List A) → test x ≡ true → first test (x ∷ xs) ≡ some x
  unfolding first
  first_yes test x xs e = rw (first, e)

  pub first_no : (test : A → Bool) (x : A) (xs : List A) → test x ≡ false → first test (x ∷ xs) ≡ first test xs
  unfolding first
  first_no test x xs e = rw (first, e)

  -- none before the first passes
  pub first_split : (test : A → Bool) (l : List A) {x : A} → first test l ≡ some x
      → (xs : List A) × (ys : List A) × (l ≡ xs ++ x ∷ ys) × (every (λ y. not (test y)) xs ≡ true) × (test x ≡ true)
  unfolding first every
  first_split test [] {x} h = absurd (none-ne-some x h)
  first_split test (z ∷ zs) {x} h = by_test (test z)
      (λ e. let q : z ≡ x = some-injective z x (sym (first_yes test z zs e) ∙ h) in ([], zs, ap (λ (y : A). y ∷ zs) q, refl, sym (ap test q) ∙ e))
      (λ e. let r = first_split test zs (sym (first_no test z zs e) ∙ h) in
      (z ∷ r.0, r.1, ap (λ (l : List A). z ∷ l) r.2, every_cons (λ y. not (test y)) z r.0 ∙ ap₂ ◌&&◌ (ap not e) r.3, r.4))

  pub first_some : (test : A → Bool) (l : List A) {x : A} → first test l ≡ some x → Memᴰ x l × (test x ≡ true)
  first_some test l {x} h =
      let r = first_split test l h in
      (rw r.2 (Memᴰ.append_right r.0 (Memᴰ.head refl)), r.4)

  pub first_none : (test : A → Bool) {x : A} {l : List A} → first test l ≡ Option.none → Memᴰ x l → test x ≡ false
  first_none test h (Memᴰ.head {x = z} {xs = zs} e) =
      ap test e ∙ by_test (test z) (λ y. absurd (some-ne-none z (sym (first_yes test z zs y) ∙ h))) (λ n. n)
  first_none test h (Memᴰ.tail {x = z} {xs = zs} i) = by_test (test z)
      (λ y. absurd (some-ne-none z (sym (first_yes test z zs y) ∙ h)))
      (λ n. first_none test (sym (first_no test z zs n) ∙ h) i)

  pub none_first : (test : A → Bool) (l : List A) → ((x : A) → Memᴰ x l → test x ≡ false) → first test l ≡ Option.none
  unfolding first
  none_first test [] h = refl
  none_first test (x ∷ xs) h = first_no test x xs (h x (Memᴰ.head refl)) ∙ none_first test xs (λ y i. h y (Memᴰ.tail i))

  pub some_first : (test : A → Bool) {x : A} {l : List A} → Memᴰ x l → test x ≡ true → (y : A) × (first test l ≡ some y)
  some_first test (Memᴰ.head {x = z} {xs = zs} e) h = (z, first_yes test z zs (sym (ap test e) ∙ h))
  some_first test (Memᴰ.tail {x = z} {xs = zs} i) h = by_test (test z)
      (λ y. (z, first_yes test z zs y))
      (λ n. let r = some_first test i h in (r.0, first_no test z zs n ∙ r.1))

  pub first_past : (test : A → Bool) (xs ys : List A) → ((x : A) → Memᴰ x xs → test x ≡ false) → first test (xs ++ ys) ≡ first test ys
  first_past test [] ys h = refl
  first_past test (x ∷ xs) ys h = first_no test x (xs ++ ys) (h x (Memᴰ.head refl)) ∙ first_past test xs ys (λ y i. h y (Memᴰ.tail i))

-- ---- elements by number

module _ {A : Type 0} where
  pub get_or_in : (l : List A) (i : ℕ) (d : A) → i < length l → Memᴰ (get_or l i d) l
  get_or_in [] i d h = absurd (not-suc-le-zero h)
  get_or_in (x ∷ xs) zero d h = Memᴰ.head refl
  get_or_in (x ∷ xs) (suc i) d h = Memᴰ.tail (get_or_in xs i d (le_of_suc-le-suc h))

  pub in_get_or : {x : A} {l : List A} → Memᴰ x l → (i : ℕ) × (i < length l) × ((d : A) → get_or l i d ≡ x)
  in_get_or (Memᴰ.head e) = (0, omega arith, λ d. sym e)
  in_get_or (Memᴰ.tail j) = let r = in_get_or j in (suc r.0, suc-le-suc r.1, r.2)

  pub get_elem?_below : (l : List A) (i : ℕ) (d : A) → i < length l → get_elem? l i ≡ some (get_or l i d)
  get_elem?_below [] i d h = absurd (not-suc-le-zero h)
  get_elem?_below (x ∷ xs) zero d h = refl
  get_elem?_below (x ∷ xs) (suc i) d h = get_elem?_below xs i d (le_of_suc-le-suc h)

  pub get_elem?_past : (l : List A) (i : ℕ) → length l ≤ i → get_elem? l i ≡ Option.none
  get_elem?_past [] i h = refl
  get_elem?_past (x ∷ xs) zero h = absurd (not-suc-le-zero h)
  get_elem?_past (x ∷ xs) (suc i) h = get_elem?_past xs i (le_of_suc-le-suc h)

  pub get_elem?_some : (l : List A) (i : ℕ) {x : A} → get_elem? l i ≡ some x → (i < length l) × ((d : A) → get_or l i d ≡ x)
  get_elem?_some [] i {x} h = absurd (none-ne-some x h)
  get_elem?_some (z ∷ zs) zero {x} h = (omega arith, λ d. some-injective z x h)
  get_elem?_some (z ∷ zs) (suc i) h = let r = get_elem?_some zs i h in (suc-le-suc r.0, r.1)

  pub get_elem?_in : (l : List A) (i : ℕ) {x : A} → get_elem? l i ≡ some x → Memᴰ x l
  get_elem?_in l i {x} h = let r = get_elem?_some l i h in subst (λ (y : A). Memᴰ y l) (r.1 x) (get_or_in l i x r.0)

  -- an element of a list with one appended
  pub last_or_before : (xs : List A) (y : A) (k : ℕ) (d : A) → k < length (xs ++ y ∷ [])
      → ((k < length xs) × (get_or (xs ++ y ∷ []) k d ≡ get_or xs k d)) ⊎ ((k ≡ length xs) × (get_or (xs ++ y ∷ []) k d ≡ y))
  last_or_before xs y k d h =
      let n : length (xs ++ y ∷ []) ≡ length xs + 1 = length-append xs (y ∷ []) in
      by_test (ltb k (length xs))
      (λ t. let l : k < length xs = ltb-true k (length xs) t in inl (l, get_or-append xs (y ∷ []) d k l))
      (λ t. let l : length xs ≤ k = ltb-false k (length xs) t in let e : k ≡ length xs = omega arith in inr (e, get_or_at xs y [] d k (sym e)))

  pub length_zero : (l : List A) → length l ≡ 0 → l ≡ []
  length_zero [] e = refl
  length_zero (x ∷ l) e = absurd (omega arith)

-- ---- places

module _ {A : Type 0} where
  pub places_from_cons : (n : ℕ) (test : A → Bool) (x : A) (xs : List A) → places_from n test (x ∷ xs) ≡ when (test x) (n ∷ []) ++ places_from (suc n) test xs
  unfolding places_from when
  places_from_cons n test x xs = by_test (test x) (λ e. rw (places_from, when, e)) (λ e. rw (places_from, when, e))

  pub places_from_append : (n : ℕ) (test : A → Bool) (xs ys : List A) → places_from n test (xs ++ ys) ≡ places_from n test xs ++ places_from (n + length xs) test ys
  unfolding places_from
  places_from_append n test [] ys = ap (λ (k : ℕ). places_from k test ys) (sym (add-zero n))
  places_from_append n test (x ∷ xs) ys =
      let e : suc n + length xs ≡ n + suc (length xs) = omega arith in
      places_from_cons n test x (xs ++ ys)
      ∙ ap (λ (l : List ℕ). when (test x) (n ∷ []) ++ l) (places_from_append (suc n) test xs ys)
      ∙ sym (append_assoc (when (test x) (n ∷ [])) (places_from (suc n) test xs) (places_from (suc n + length xs) test ys))
      ∙ ap₂ (λ (l : List ℕ) (k : ℕ). l ++ places_from k test ys) (sym (places_from_cons n test x xs)) e

  pub places_append : (test : A → Bool) (xs ys : List A) → places test (xs ++ ys) ≡ places test xs ++ places_from (length xs) test ys
  unfolding places
  places_append test xs ys =
      places_from_append 0 test xs ys ∙ ap (λ (k : ℕ). places_from 0 test xs ++ places_from k test ys) (zero-add (length xs))

  pub places_snoc : (test : A → Bool) (xs : List A) (x : A) → places test (xs ++ x ∷ []) ≡ places test xs ++ when (test x) (length xs ∷ [])
  unfolding places_from
  places_snoc test xs x =
      places_append test xs (x ∷ []) ∙ ap (λ (l : List ℕ). places test xs ++ l) (places_from_cons (length xs) test x [] ∙ append-nil (when (test x) (length xs ∷ [])))

  pub places_take : (test : A → Bool) (l : List A) (i : ℕ) (d : A) → i < length l
      → places test (take (suc i) l) ≡ places test (take i l) ++ when (test (get_or l i d)) (i ∷ [])
  places_take test l i d h =
      ap (places test) (take-suc l i d h) ∙ places_snoc test (take i l) (get_or l i d)
      ∙ ap (λ (n : ℕ). places test (take i l) ++ when (test (get_or l i d)) (n ∷ [])) (length-take-le i l (omega arith))

  pub places_from_in : (n : ℕ) (test : A → Bool) (l : List A) (d : A) (i : ℕ) → i < length l → test (get_or l i d) ≡ true → Memᴰ (n + i) (places_from n test l)
  places_from_in n test [] d i h e = absurd (not-suc-le-zero h)
  places_from_in n test (x ∷ xs) d zero h e =
      rw (places_from_cons n test x xs) (Memᴰ.append_left (places_from (suc n) test xs) (when_in (test x) e (Memᴰ.head (add-zero n))))
  places_from_in n test (x ∷ xs) d (suc i) h e =
      let q : n + suc i ≡ suc n + i = omega arith in
      rw (places_from_cons n test x xs)
      (Memᴰ.append_right (when (test x) (n ∷ [])) (Memᴰ.cast q (places_from_in (suc n) test xs d i (le_of_suc-le-suc h) e)))

  pub places_from_out : (n : ℕ) (test : A → Bool) (l : List A) {p : ℕ} → Memᴰ p (places_from n test l)
      → (i : ℕ) × (p ≡ n + i) × (i < length l) × ((d : A) → test (get_or l i d) ≡ true)
  unfolding places_from
  places_from_out n test [] j = absurd (Memᴰ.not-nil j)
  places_from_out n test (x ∷ xs) {p} j =
      ⊎_elim
      (λ k. let w = when_out (test x) (n ∷ []) k in (0, Memᴰ.eq_of_singleton w.1 ∙ sym (add-zero n), omega arith, λ d. w.0))
      (λ k. let r = places_from_out (suc n) test xs k in let e : p ≡ suc n + r.0 = r.1 in (suc r.0, omega arith, suc-le-suc r.2, r.3))
      (Memᴰ.append_cases (when (test x) (n ∷ [])) (rw (places_from_cons n test x xs) at j))

  pub places_in : (test : A → Bool) (l : List A) (d : A) (i : ℕ) → i < length l → test (get_or l i d) ≡ true → Memᴰ i (places test l)
  unfolding places
  places_in test l d i h e = Memᴰ.cast (sym (zero-add i)) (places_from_in 0 test l d i h e)

  pub places_out : (test : A → Bool) (l : List A) (d : A) {i : ℕ} → Memᴰ i (places test l) → (i < length l) × (test (get_or l i d) ≡ true)
  unfolding places
  places_out test l d {i} j =
      let r = places_from_out 0 test l j in
      let e : i ≡ r.0 = r.1 ∙ zero-add r.0 in
      (subst (λ (k : ℕ). k < length l) (sym e) r.2, ap (λ (k : ℕ). test (get_or l k d)) e ∙ r.3 d)

  pub places_from_after : (n : ℕ) (test : A → Bool) (l : List A) (x : ℕ) → x < n → rising_from (λ m. m ∷ []) x (places_from n test l) ≡ true
  unfolding places_from rising_from
  places_from_after n test [] x h = refl
  places_from_after n test (y ∷ ys) x h = by_test (test y)
      (λ e. rw (places_from, e) (rising_from_cons (λ m. m ∷ []) x n (places_from (suc n) test ys) (less_one x n h) (places_from_after (suc n) test ys n (omega arith))))
      (λ e. rw (places_from, e) (places_from_after (suc n) test ys x (omega arith)))

  pub places_from_rising : (n : ℕ) (test : A → Bool) (l : List A) → rising (λ m. m ∷ []) (places_from n test l) ≡ true
  unfolding places_from rising
  places_from_rising n test [] = refl
  places_from_rising n test (x ∷ xs) = by_test (test x)
      (λ e. rw (places_from, e) (places_from_after (suc n) test xs n (omega arith)))
      (λ e. rw (places_from, e) (places_from_rising (suc n) test xs))

  pub places_rising : (test : A → Bool) (l : List A) → rising (λ m. m ∷ []) (places test l) ≡ true
  unfolding places
  places_rising test l = places_from_rising 0 test l

-- ---- a measure that falls with the elements left

pub fewer_left : (l rest : List ℕ) (x m : ℕ) → l ≡ x ∷ rest → length l * 2 ≡ m → length rest * 2 + 1 < m
fewer_left l rest x m e h = let k : length l ≡ suc (length rest) = ap length e in omega arith
