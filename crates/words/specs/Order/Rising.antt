-- The order of lists that are appended. Rising lists: by another key, one after another, the first that passes a test, and elements by
-- number.
-- Assumes nothing.
use Rattle.std.specs.Prelude.{ℕ, zero, suc, ◌<◌, Bool, true, ◌≡◌, ◌⊎◌, length, get_or}
use Rattle.std.proofs.lemmas.Bool.{false≢true}
use Rattle.std.proofs.Math.Path.{refl}
use Rattle.std.proofs.Common.{ap, sym, ◌∙◌, subst, inl, inr, ⊎_elim, le_of_suc-le-suc, arith}
use Rattle.std.proofs.Math.Option.{some, some-injective}
use mathlib.Core.List.Memᴰ
use mathlib.Core.List.{List, [], ◌∷◌, ◌++◌, Memᴰ}
use Rattle.std.proofs.Math.Nat.{suc_inj}
use Rattle.words.specs.Laws.Tests.{by_test}
use Rattle.words.specs.Lists.{each, first}
use Rattle.words.specs.Lists.Laws.{get_or_in, each_out, first_yes, first_no}
use Rattle.words.specs.Order.{less, rising, rising_from}
use Rattle.words.specs.Order.Laws.{number_cases, less_lt, less_eq, less_cons, less_differs, one_less, rising_append, rising_tail, rising_from_less, rising_cons, less_rising_from}

-- ---- the order of lists that are appended

pub less_append : (k l : List ℕ) (m n : List ℕ) → length k ≡ length l → less k l ≡ true → less (k ++ m) (l ++ n) ≡ true
unfolding less
less_append [] [] m n e h = absurd (false≢true h)
less_append [] (y ∷ l) m n e h = absurd (omega arith)
less_append (x ∷ k) [] m n e h = absurd (omega arith)
less_append (x ∷ k) (y ∷ l) m n e h = ⊎_elim
    (λ z. less_lt x y (k ++ m) (l ++ n) z)
    (λ z. less_eq x y (k ++ m) (l ++ n) z.0 ∙ less_append k l m n (suc_inj e) z.1)
    (less_cons x y k l h)

pub less_same_head : (k m n : List ℕ) → less (k ++ m) (k ++ n) ≡ less m n
less_same_head [] m n = refl
less_same_head (x ∷ k) m n = less_eq x x (k ++ m) (k ++ n) refl ∙ less_same_head k m n

-- ---- lists that rise by another key

-- a list rises by every key that rises with its own
pub rising_other : {A : Type 0} (key other : A → List ℕ) (l : List A)
    → ((x y : A) → Memᴰ x l → Memᴰ y l → less (key x) (key y) ≡ true → less (other x) (other y) ≡ true)
    → rising key l ≡ true → rising other l ≡ true
unfolding rising
rising_other key other [] h r = refl
rising_other key other (x ∷ l) h r = less_rising_from other x l
    (λ y j. h x y (Memᴰ.head refl) (Memᴰ.tail j) (rising_from_less key x l r j))
    (rising_other key other l (λ y z i j. h y z (Memᴰ.tail i) (Memᴰ.tail j)) (rising_tail key x l r))

-- rising numbers rise by any key that rises with the number
pub rising_with : (key : ℕ → List ℕ) (l : List ℕ) → rising (λ n. n ∷ []) l ≡ true
    → ((m n : ℕ) → Memᴰ m l → Memᴰ n l → m < n → less (key m) (key n) ≡ true) → rising key l ≡ true
rising_with key l r h = rising_other (λ n. n ∷ []) key l (λ m n i j o. h m n i j (one_less m n o)) r

-- keys that compare alike
pub rising_alike : {A : Type 0} (key other : A → List ℕ) → ((x y : A) → less (key x) (key y) ≡ less (other x) (other y))
    → (l : List A) → rising key l ≡ rising other l
rising_alike key other alike l = by_test (rising other l)
    (λ t. rising_other other key l (λ x y i j h. alike x y ∙ h) t ∙ sym t)
    (λ f. by_test (rising key l)
    (λ t. absurd (false≢true (sym f ∙ rising_other key other l (λ x y i j h. sym (alike x y) ∙ h) t)))
    (λ g. g ∙ sym f))

-- ---- one list after another

module _ {A B : Type 0} (order : A → List ℕ) (key : B → List ℕ) where
  -- lists that rise, one after another, in the order of what they are for
  pub rising_each : (l : List A) (f : A → List B) → rising order l ≡ true → ((x : A) → Memᴰ x l → rising key (f x) ≡ true)
      → ((x y : A) → Memᴰ x l → Memᴰ y l → less (order x) (order y) ≡ true → (u v : B) → Memᴰ u (f x) → Memᴰ v (f y) → less (key u) (key v) ≡ true)
      → rising key (each l f) ≡ true
  unfolding rising each
  rising_each [] f r h g = refl
  rising_each (x ∷ l) f r h g = rising_append key (f x) (each l f) (h x (Memᴰ.head refl))
      (rising_each l f (rising_tail order x l r) (λ y j. h y (Memᴰ.tail j)) (λ y z i j. g y z (Memᴰ.tail i) (Memᴰ.tail j)))
      (λ u v i j. let (y, k, m) = each_out l f j in g x y (Memᴰ.head refl) (Memᴰ.tail k) (rising_from_less order x l r k) u v i m)

-- ---- the first that passes a test

-- in a rising list the first that passes a test is the least that passes it
pub first_rising : {A : Type 0} (key : A → List ℕ) (test : A → Bool) (l : List A) {x y : A} → rising key l ≡ true → first test l ≡ some x
    → Memᴰ y l → test y ≡ true → (y ≡ x) ⊎ (less (key x) (key y) ≡ true)
first_rising key test [] r h j t = absurd (Memᴰ.not-nil j)
first_rising {A} key test (z ∷ l) {x} {y} r h j t =
    let f : rising_from key z l ≡ true = sym (rising_cons key z l) ∙ r in
    by_test (test z)
    (λ p.
    let e : z ≡ x = some-injective z x (sym (first_yes test z l p) ∙ h) in
    ⊎_elim (λ q. inl (q ∙ e)) (λ i. inr (subst (λ (w : A). less (key w) (key y) ≡ true) e (rising_from_less key z l f i))) (Memᴰ.cases_cons j))
    (λ p. ⊎_elim
    (λ q. absurd (false≢true (sym p ∙ ap test (sym q) ∙ t)))
    (λ i. first_rising key test l (rising_tail key z l f) (sym (first_no test z l p) ∙ h) i t)
    (Memᴰ.cases_cons j))

-- ---- elements by number

-- an element of a rising list is before those of higher number
pub rising_before : {A : Type 0} (key : A → List ℕ) (l : List A) (d : A) (i j : ℕ) → rising key l ≡ true → i < j → j < length l
    → less (key (get_or l i d)) (key (get_or l j d)) ≡ true
rising_before key [] d i j r h k = absurd (omega arith)
rising_before key (x ∷ l) d i zero r h k = absurd (omega arith)
rising_before key (x ∷ l) d zero (suc j) r h k = rising_from_less key x l (sym (rising_cons key x l) ∙ r) (get_or_in l j d (le_of_suc-le-suc k))
rising_before key (x ∷ l) d (suc i) (suc j) r h k =
    rising_before key l d i j (rising_tail key x l (sym (rising_cons key x l) ∙ r)) (le_of_suc-le-suc h) (le_of_suc-le-suc k)

-- a rising list holds no key twice
pub rising_once : {A : Type 0} (key : A → List ℕ) (l : List A) (d : A) (i j : ℕ) → rising key l ≡ true → i < length l → j < length l
    → key (get_or l i d) ≡ key (get_or l j d) → i ≡ j
rising_once key l d i j r hi hj e = go (number_cases i j)
  where
    go : (i < j) ⊎ ((i ≡ j) ⊎ (j < i)) → i ≡ j
    go (inl k) = absurd (less_differs (key (get_or l i d)) (key (get_or l j d)) (rising_before key l d i j r k hj) e)
    go (inr (inl q)) = q
    go (inr (inr k)) = absurd (less_differs (key (get_or l j d)) (key (get_or l i d)) (rising_before key l d j i r k hi) (sym e))
