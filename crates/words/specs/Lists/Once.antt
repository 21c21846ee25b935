-- Lists that hold each element once: one is no longer than a list of partners, one for each element and none for two; the numbers below k.
-- Assumes nothing.
use Rattle.std.specs.Prelude.{ℕ, zero, suc, ◌<◌, ◌≤◌, ◌≡◌, refl, ◌⊎◌, length, get_or}
use Rattle.std.proofs.Common.{suc-le-suc, ap, sym, ◌∙◌, subst, inl, inr, ⊎_elim, arith}
use mathlib.Core.List.Memᴰ
use mathlib.Core.List.{List, [], ◌∷◌, Memᴰ}
use Rattle.std.proofs.Math.Nat.{suc_inj}
use Rattle.words.specs.Laws.Numbers.{below_suc}
use Rattle.words.specs.Lists.Laws.{in_get_or}

-- a list without one of its elements has one element fewer and all others
taken_out : {A : Type 0} {x : A} {l : List A} → Memᴰ x l
    → (r : List A) × (length l ≡ suc (length r)) × ((y : A) → Memᴰ y l → (y ≡ x) ⊎ Memᴰ y r)
taken_out (Memᴰ.head {xs = xs} e) = (xs, refl, λ y j. ⊎_elim (λ z. inl (z ∙ sym e)) (λ i. inr i) (Memᴰ.cases_cons j))
taken_out (Memᴰ.tail {x = z} i) =
    let (r, n, f) = taken_out i in (
      z ∷ r,
      ap suc n,
      λ y j. ⊎_elim (λ e. inr (Memᴰ.head e)) (λ k. ⊎_elim (λ e. inl e) (λ h. inr (Memᴰ.tail h)) (f y k)) (Memᴰ.cases_cons j),
    )

module _ {A B : Type 0} (X : A → B → Type 0) (d : A) where
  -- A list that holds each element once is no longer than one that has a partner for each of its elements, where no two have one partner.
  pub once_shorter : (l : List A) (k : List B) → ((i j : ℕ) → i < length l → j < length l → get_or l i d ≡ get_or l j d → i ≡ j)
      → ((x : A) → Memᴰ x l → (y : B) × Memᴰ y k × X x y)
      → ((x z : A) (y : B) → X x y → X z y → x ≡ z) → length l ≤ length k
  once_shorter [] k once partner alone = omega arith
  once_shorter (x ∷ l) k once partner alone =
      let (y, i, p) = partner x (Memᴰ.head refl) in
      let (r, n, f) = taken_out i in
      let shorter : length l ≤ length r = once_shorter l r
      (λ a b ha hb e. suc_inj (once (suc a) (suc b) (suc-le-suc ha) (suc-le-suc hb) e))
      (λ z j.
      let (w, h, q) = partner z (Memᴰ.tail j) in
      ⊎_elim
      (λ e.
      let (a, ha, g) = in_get_or j in
      let same : x ≡ z = alone x z y p (subst (X z) e q) in
      let none : ◌≡◌ {A = ℕ} 0 (suc a) = once 0 (suc a) (omega arith) (suc-le-suc ha) (same ∙ sym (g d)) in
      absurd (omega arith))
      (λ m. (w, m, q))
      (f w h))
      alone in
      omega arith

-- ---- the numbers below a number

-- the numbers below k, the greatest first
unfoldable pub below : ℕ → List ℕ
below zero = []
below (suc k) = k ∷ below k

pub length_below : (k : ℕ) → length (below k) ≡ k
unfolding below
length_below zero = refl
length_below (suc k) = ap suc (length_below k)

pub below_in : (k n : ℕ) → n < k → Memᴰ n (below k)
unfolding below
below_in zero n h = absurd (omega arith)
below_in (suc k) n h = below_suc (λ m. Memᴰ m (below (suc k))) k (λ m l. Memᴰ.tail (below_in k m l)) (Memᴰ.head refl) n h
