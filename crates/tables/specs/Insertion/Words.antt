-- What the loops over words keep: of two rows compared, and of words moved to make room for a row.
-- Assumes nothing.
use Rattle.std.specs.Prelude.{ℕ, suc, ◌+◌, ◌-◌, ◌≤◌, ◌<◌, false, ◌≡◌, refl, List, [], ◌∷◌, ◌++◌, get_or, set, take, drop, ltb}
use Rattle.std.proofs.Common.{ap, ◌∙◌, ⊎_elim, append_assoc, add-one, length-set, length-append, drop_of_length-le, take-suc, drop-cons, get_or-take, length-take-le, lt-ltb, le-ltb}
use Rattle.std.proofs.Math.Path.{ap₂, sym}
use Rattle.std.proofs.Math.Nat.{sub_self}
use native.Mathlib.Omega.{arith}
use Rattle.std.proofs.Math.ListN.{length, get_or-append}
use Rattle.std.proofs.Math.Seq.{paste, paste-zero, append_snoc}
use Rattle.std.proofs.lemmas.List.{set_at}
use Rattle.words.specs.Order.{less}
use Rattle.words.specs.Order.Laws.{less_lt, less_eq, less_gt, number_cases}

-- ---- the order of words

-- the first words are the same, and the others decide
pub record SameUpTo (x y : List ℕ) (i : ℕ) : Type 0 where
  pub within : i ≤ length y
  pub left : less x y ≡ less (drop i x) (drop i y)

module _ (x y : List ℕ) (len : length x ≡ length y) where
  pub same_none : SameUpTo x y 0
  same_none = record { within = omega arith; left = refl }

  -- both from word i on
  next_words : (i : ℕ) → SameUpTo x y i → i < length y → less x y ≡ less (get_or x i 0 ∷ drop (suc i) x) (get_or y i 0 ∷ drop (suc i) y)
  next_words i s h = s.left ∙ ap₂ less (drop-cons x i 0 (omega arith)) (drop-cons y i 0 h)

  pub same_more : (i : ℕ) → SameUpTo x y i → i < length y → get_or x i 0 ≡ get_or y i 0 → SameUpTo x y (i + 1)
  same_more i s h e =
      record {
        within = omega arith;
        left = next_words i s h ∙ less_eq _ _ _ _ e ∙ ap (λ (k : ℕ). less (drop k x) (drop k y)) (sym (add-one i));
      }

  pub differ_at : (i : ℕ) → SameUpTo x y i → i < length y → (get_or x i 0 ≡ get_or y i 0 → ⊥) → ltb (get_or x i 0) (get_or y i 0) ≡ less x y
  differ_at i s h d =
      let a : ℕ = get_or x i 0 in
      let b : ℕ = get_or y i 0 in
      sym
      (next_words i s h
      ∙ ⊎_elim (λ (l : a < b). less_lt a b _ _ l ∙ sym (lt-ltb a b l))
      (λ t. ⊎_elim (λ (e : a ≡ b). absurd (d e)) (λ (l : b < a). less_gt a b _ _ l ∙ sym (le-ltb a b (omega arith))) t)
      (number_cases a b))

  pub same_all : (i : ℕ) → SameUpTo x y i → length y ≤ i → false ≡ less x y
  unfolding less
  same_all i s h =
      let past : length x ≤ i = omega arith in
      sym (s.left ∙ ap₂ less (drop_of_length-le x past) (drop_of_length-le y h))

-- ---- words moved to make room

-- The words from j up to `end` stand w places further, and all others where they stood.
pub record OpenedTo (t₀ t : List ℕ) (at end w j : ℕ) : Type 0 where
  pub low : at ≤ j
  pub high : j ≤ end
  pub is : t ≡ paste t₀ (j + w) (drop j t₀) (end - j)
  pub long : length t ≡ length t₀

set_between : (p : List ℕ) (y v : ℕ) (m r : List ℕ) (n : ℕ) → length p ≡ n → set (p ++ (y ∷ []) ++ m ++ r) n v ≡ p ++ (v ∷ m) ++ r
set_between p y v m r n e =
    ap (λ (z : List ℕ). set z n v) (ap (λ (z : List ℕ). z ++ r) (append_snoc p y m) ∙ append_assoc p (y ∷ m) r)
    ∙ set_at p y (m ++ r) v n e
    ∙ sym (append_assoc p (v ∷ m) r)

module _ (t₀ : List ℕ) (at end w : ℕ) (fits : end + w ≤ length t₀) where
  pub opened_none : at ≤ end → OpenedTo t₀ t₀ at end w end
  opened_none h =
      record {
        low = h;
        high = omega arith;
        is = paste-zero t₀ (end + w) (drop end t₀) ∙ ap (paste t₀ (end + w) (drop end t₀)) (sym (sub_self end));
        long = refl;
      }

  -- the word before the moved ones
  word_kept : (t : List ℕ) (j k : ℕ) → suc k ≡ j → OpenedTo t₀ t at end w j → get_or t k 0 ≡ get_or t₀ k 0
  word_kept t j k e o =
      let h : j ≤ end = o.high in
      let len : length (take (j + w) t₀) ≡ j + w = length-take-le (j + w) t₀ (omega arith) in
      let more : length (take (j + w) t₀ ++ take (end - j) (drop j t₀)) ≡ length (take (j + w) t₀) + length (take (end - j) (drop j t₀)) =
      length-append (take (j + w) t₀) (take (end - j) (drop j t₀)) in
      ap (λ (z : List ℕ). get_or z k 0) o.is
      ∙ get_or-append (take (j + w) t₀ ++ take (end - j) (drop j t₀)) (drop (j + w + (end - j)) t₀) 0 k (omega arith)
      ∙ get_or-append (take (j + w) t₀) (take (end - j) (drop j t₀)) 0 k (omega arith)
      ∙ get_or-take (j + w) t₀ k 0 (omega arith)

  moved_down : (t : List ℕ) (j k : ℕ) → suc k ≡ j → OpenedTo t₀ t at end w j
      → set t (k + w) (get_or t₀ k 0) ≡ paste t₀ (k + w) (drop k t₀) (end - k)
  moved_down t j k e o =
      let h : j ≤ end = o.high in
      let v : ℕ = get_or t₀ k 0 in
      let m : List ℕ = take (end - j) (drop j t₀) in
      let r : List ℕ = drop (j + w + (end - j)) t₀ in
      let front : take (j + w) t₀ ≡ take (k + w) t₀ ++ (get_or t₀ (k + w) 0 ∷ []) =
      ap (λ (n : ℕ). take n t₀) (let z : j + w ≡ suc (k + w) = omega arith in z) ∙ take-suc t₀ (k + w) 0 (omega arith) in
      let middle : v ∷ m ≡ take (end - k) (drop k t₀) =
      ap (λ (n : ℕ). v ∷ take (end - j) (drop n t₀)) (sym e)
      ∙ ap (take (suc (end - j))) (sym (drop-cons t₀ k 0 (omega arith)))
      ∙ ap (λ (n : ℕ). take n (drop k t₀)) (let z : suc (end - j) ≡ end - k = omega arith in z) in
      ap (λ (z : List ℕ). set z (k + w) v) (o.is ∙ ap (λ (z : List ℕ). z ++ m ++ r) front)
      ∙ set_between (take (k + w) t₀) (get_or t₀ (k + w) 0) v m r (k + w) (length-take-le (k + w) t₀ (omega arith))
      ∙ ap₂ (λ (z : List ℕ) (n : ℕ). take (k + w) t₀ ++ z ++ drop n t₀) middle (let z : j + w + (end - j) ≡ k + w + (end - k) = omega arith in z)

  pub opened_more : (t : List ℕ) (j : ℕ) → OpenedTo t₀ t at end w j → at < j → OpenedTo t₀ (set t (j - 1 + w) (get_or t (j - 1) 0)) at end w (j - 1)
  opened_more t j o h =
      let high : j ≤ end = o.high in
      let e : suc (j - 1) ≡ j = omega arith in
      record {
        low = omega arith;
        high = omega arith;
        is = ap (set t (j - 1 + w)) (word_kept t j (j - 1) e o) ∙ moved_down t j (j - 1) e o;
        long = length-set t (j - 1 + w) (get_or t (j - 1) 0) ∙ o.long;
      }

  pub opened_all : (t : List ℕ) (j : ℕ) → OpenedTo t₀ t at end w j → j ≤ at → t ≡ paste t₀ (at + w) (drop at t₀) (end - at)
  opened_all t j o h =
      let low : at ≤ j = o.low in
      o.is ∙ ap (λ (k : ℕ). paste t₀ (k + w) (drop k t₀) (end - k)) (let z : j ≡ at = omega arith in z)
