-- The number that an argument names, one byte after another; a number written in decimal is read back.
-- Assumes nothing.
use Rattle.std.specs.Prelude.{ℕ, zero, suc, ◌+◌, ◌*◌, ◌-◌, ◌/◌, ◌%◌, ◌≤◌, ◌<◌, min, ◌≡◌, length, get_or, take, ltb}
use Rattle.std.proofs.Math.Path.{refl, ap}
use Rattle.std.proofs.Common.{inl, inr, sym, ◌∙◌, add-one, take_all, take-suc}
use Rattle.std.specs.Char.{IsNotAsciiDigit}
use mathlib.Core.List.{List, [], ◌∷◌, ◌++◌, foldl, foldl-append}
use Rattle.std.proofs.Math.Nat.{min-eq_left, min-eq_right}
use native.Mathlib.Omega.{arith}
use borrow.Author.Tests.{le-leb, lt-leb, ltb-true, ltb-false}
use Rattle.words.specs.Laws.Tests.{by_test}
use Rattle.words.specs.Lists.Laws.{length_zero}
use Rattle.services.specs.Listing.{decimal}
use Rattle.services.specs.Listing.Decimal.{decimal_one, decimal_more, length_more}
use Rattle.services.specs.Run.{with_digit, number_named}
use Rattle.number_text.specs.Named.{ReadTo}

module _ (most : ℕ) where
  -- ---- one byte more

  module _ (n b : ℕ) where
    pub below_digits : b < 48 → with_digit most n b ≡ most
    unfolding with_digit
    below_digits h = rw (with_digit, lt-leb 48 b h) refl

    pub above_digits : 57 < b → with_digit most n b ≡ most
    unfolding with_digit
    above_digits h =
        let l : 48 ≤ b = omega arith in
        rw (with_digit, le-leb 48 b l, lt-leb b 57 h) refl

    pub no_digit : IsNotAsciiDigit b → most ≡ with_digit most n b
    no_digit (inl h) = sym (below_digits h)
    no_digit (inr h) = sym (above_digits h)

    pub digit_adds : 48 ≤ b → b ≤ 57 → with_digit most n b ≡ min (n * 10 + (b - 48)) most
    unfolding with_digit
    digit_adds l h = rw (with_digit, le-leb 48 b l, le-leb b 57 h) refl

  -- ---- one byte after another

  pub read_none : (bytes : List ℕ) → ReadTo most bytes 0 0
  read_none bytes = record { within = omega arith; is = refl; small = omega arith }

  pub read_next : {bytes : List ℕ} {i n m : ℕ} → ReadTo most bytes i n → i < length bytes → m ≡ with_digit most n (get_or bytes i 0) → m ≤ most → ReadTo most bytes (i + 1) m
  read_next {bytes} {i} {n} h more e small =
      let all : take (i + 1) bytes ≡ take i bytes ++ (get_or bytes i 0 ∷ []) = ap (λ (k : ℕ). take k bytes) (add-one i) ∙ take-suc bytes i 0 more in
      record {
        within = omega arith;
        is = e
            ∙ ap (λ (k : ℕ). with_digit most k (get_or bytes i 0)) h.is
            ∙ sym (foldl-append (with_digit most) 0 (take i bytes) (get_or bytes i 0 ∷ []))
            ∙ ap (foldl (with_digit most) 0) (sym all);
        small = small;
      }

  pub named_none : (bytes : List ℕ) → length bytes ≡ 0 → most ≡ number_named most bytes
  unfolding number_named
  named_none bytes e = ap (number_named most) (sym (length_zero bytes e))

  named_some : (bytes : List ℕ) → 0 < length bytes → foldl (with_digit most) 0 bytes ≡ number_named most bytes
  unfolding number_named
  named_some [] h = absurd (omega arith)
  named_some (b ∷ bs) h = refl

  pub read_all : {bytes : List ℕ} {i n : ℕ} → ReadTo most bytes i n → 0 < length bytes → length bytes ≤ i → n ≡ number_named most bytes
  read_all {bytes} {i} h some all = h.is ∙ ap (foldl (with_digit most) 0) (take_all i bytes all) ∙ named_some bytes some

  -- ---- a number in decimal

  -- the number so far, and its last digit behind it
  last_digit : (n : ℕ) → with_digit most (min (n / 10) most) (48 + n % 10) ≡ min n most
  last_digit n =
      let l : 48 ≤ 48 + n % 10 = omega arith in
      let h : 48 + n % 10 ≤ 57 = omega arith in
      digit_adds (min (n / 10) most) (48 + n % 10) l h ∙ by_test (ltb (n / 10) most)
      (λ e.
      let s : n / 10 < most = ltb-true (n / 10) most e in
      let m : min (n / 10) most ≡ n / 10 = min-eq_left (omega arith) in
      let z : (n / 10) * 10 + (48 + n % 10 - 48) ≡ n = omega arith in
      ap (λ (k : ℕ). min (k * 10 + (48 + n % 10 - 48)) most) m ∙ ap (λ (k : ℕ). min k most) z)
      (λ e.
      let s : most ≤ n / 10 = ltb-false (n / 10) most e in
      let m : min (n / 10) most ≡ most = min-eq_right s in
      let z : most ≤ n = omega arith in
      ap (λ (k : ℕ). min (k * 10 + (48 + n % 10 - 48)) most) m ∙ min-eq_right (omega arith) ∙ sym (min-eq_right z))

  digits_read : (k n : ℕ) → n < k → (0 < length (decimal n)) × (foldl (with_digit most) 0 (decimal n) ≡ min n most)
  digits_read zero n h = absurd (omega arith)
  digits_read (suc k) n h = by_test (ltb n 10)
      (λ e.
      let s : n < 10 = ltb-true n 10 e in
      let d = decimal_one n s in
      let z : min (n / 10) most ≡ 0 = omega arith in
      (rw d (omega arith), ap (foldl (with_digit most) 0) d ∙ ap (λ (q : ℕ). with_digit most q (48 + n % 10)) (sym z) ∙ last_digit n))
      (λ e.
      let s : 10 ≤ n = ltb-false n 10 e in
      let d = decimal_more n s in
      let (some, r) = digits_read k (n / 10) (omega arith) in
      let long = length_more n s in (
        omega arith,
        ap (foldl (with_digit most) 0) d
            ∙ foldl-append (with_digit most) 0 (decimal (n / 10)) ((48 + n % 10) ∷ [])
            ∙ ap (λ (q : ℕ). with_digit most q (48 + n % 10)) r
            ∙ last_digit n,
      ))

  -- A number in decimal names that number, or the largest one if it is larger.
  pub decimal_names : (n : ℕ) → number_named most (decimal n) ≡ min n most
  decimal_names n = let (some, r) = digits_read (suc n) n (omega arith) in sym (named_some (decimal n) some) ∙ r
