-- Numbers in decimal: a number's last digit, how many digits it has, and what follows it.
-- Assumes nothing.
use Rattle.std.specs.Prelude.{ℕ, zero, suc, ◌+◌, ◌-◌, ◌*◌, ◌/◌, ◌%◌, ◌^◌, ◌≤◌, ◌<◌, true, false, ◌≡◌, List, [], ◌∷◌, ◌++◌, length, get_or, ltb, leb}
use Rattle.std.proofs.Common.{ap, sym, ◌∙◌, append_assoc, length-append}
use Rattle.std.proofs.Math.Nat.{pow-succ'}
use native.Mathlib.Omega.{arith}
use borrow.Author.Tests.{eq-eqb, ne_eqb, le-leb, lt-leb, ltb-true, ltb-false}
use Rattle.words.specs.Laws.Tests.{by_test}
use Rattle.services.specs.Listing.{digits_before, decimal}

-- ---- one digit more

module _ (k n : ℕ) (ds : List ℕ) where
  digits_one : n < 10 → digits_before (suc k) n ds ≡ (48 + n % 10) ∷ ds
  unfolding digits_before
  digits_one h =
      let z : n / 10 ≡ 0 = omega arith in
      rw (digits_before, eq-eqb (n / 10) 0 z)

  digits_more : 10 ≤ n → digits_before (suc k) n ds ≡ digits_before k (n / 10) ((48 + n % 10) ∷ ds)
  unfolding digits_before
  digits_more h =
      let z : n / 10 ≡ 0 → ⊥ = omega arith in
      rw (digits_before, ne_eqb (n / 10) 0 z)

-- The bound on the number of digits does not matter where it is large enough.
digits_append : (k m n : ℕ) (cs ds : List ℕ) → n < k → n < m → digits_before k n (cs ++ ds) ≡ digits_before m n cs ++ ds
digits_append zero m n cs ds h l = absurd (omega arith)
digits_append (suc k) zero n cs ds h l = absurd (omega arith)
digits_append (suc k) (suc m) n cs ds h l = by_test (ltb n 10)
    (λ e.
    let z : n < 10 = ltb-true n 10 e in
    digits_one k n (cs ++ ds) z ∙ ap (λ (r : List ℕ). r ++ ds) (sym (digits_one m n cs z)))
    (λ e.
    let z : 10 ≤ n = ltb-false n 10 e in
    digits_more k n (cs ++ ds) z
    ∙ digits_append k m (n / 10) ((48 + n % 10) ∷ cs) ds (omega arith) (omega arith)
    ∙ ap (λ (r : List ℕ). r ++ ds) (sym (digits_more m n cs z)))

pub decimal_one : (n : ℕ) → n < 10 → decimal n ≡ (48 + n % 10) ∷ []
unfolding decimal
decimal_one n h = digits_one n n [] h

pub decimal_more : (n : ℕ) → 10 ≤ n → decimal n ≡ decimal (n / 10) ++ ((48 + n % 10) ∷ [])
unfolding decimal
decimal_more n h = digits_more n n [] h ∙ digits_append n (suc (n / 10)) (n / 10) [] ((48 + n % 10) ∷ []) (omega arith) (omega arith)

-- ---- the number of digits

pub length_one : (n : ℕ) → n < 10 → length (decimal n) ≡ 1
length_one n h = ap length (decimal_one n h)

pub length_more : (n : ℕ) → 10 ≤ n → length (decimal n) ≡ length (decimal (n / 10)) + 1
length_more n h = ap length (decimal_more n h) ∙ length-append (decimal (n / 10)) ((48 + n % 10) ∷ [])

digits_length : (k m n : ℕ) (ds : List ℕ) → n < 10 ^ suc k → length (digits_before m n ds) ≤ suc k + length ds
unfolding digits_before
digits_length k zero n ds h = omega arith
digits_length zero (suc m) n ds h =
    let z : n < 10 = omega arith in
    rw (digits_one m n ds z) (omega arith)
digits_length (suc k) (suc m) n ds h = by_test (ltb n 10)
    (λ e. rw (digits_one m n ds (ltb-true n 10 e)) (omega arith))
    (λ e.
    let z : n / 10 < 10 ^ suc k = omega (arith, pow-succ' 10 (suc k)) in
    let less : length (digits_before m (n / 10) ((48 + n % 10) ∷ ds)) ≤ suc k + suc (length ds) = digits_length k m (n / 10) ((48 + n % 10) ∷ ds) z in
    rw (digits_more m n ds (ltb-false n 10 e)) (omega arith))

-- a number below 10 ^ k has at most k digits, and 0 has one
pub decimal_length : (k n : ℕ) → 0 < k → n < 10 ^ k → length (decimal n) ≤ k
unfolding decimal
decimal_length zero n some h = absurd (omega arith)
decimal_length (suc k) n some h = omega (arith, digits_length k (suc n) n [] h)

-- a number of 64 bits has at most 20
pub decimal_length64 : (n : ℕ) → n < 2 ^ 64 → length (decimal n) ≤ 20
decimal_length64 n h = decimal_length 20 n (omega arith) (omega arith)

-- ---- what a number begins with, and what follows it

decimal_begins : (k n : ℕ) (x : List ℕ) → n < k → get_or (decimal n ++ x) 0 0 < 58
decimal_begins zero n x h = absurd (omega arith)
decimal_begins (suc k) n x h = by_test (ltb n 10)
    (λ e. rw (decimal_one n (ltb-true n 10 e)) (omega arith))
    (λ e.
    let s : 10 ≤ n = ltb-false n 10 e in
    rw (decimal_more n s, append_assoc (decimal (n / 10)) ((48 + n % 10) ∷ []) x)
    (decimal_begins k (n / 10) ((48 + n % 10) ∷ x) (omega arith)))

-- the first byte is no bracket
pub decimal_first : (n : ℕ) (x : List ℕ) → get_or (decimal n ++ x) 0 0 < 58
decimal_first n x = decimal_begins (suc n) n x (omega arith)

-- the number that the digits at the front give, after n, and what follows them
pub record Number : Type 0 where
  pub value : ℕ
  pub follows : List ℕ

unfoldable read_number : ℕ → List ℕ → Number
read_number n [] = record { value = n; follows = [] }
read_number n (b ∷ bs) = elim (leb 48 b) [ true ↦ read_number (n * 10 + (b - 48)) bs | false ↦ record { value = n; follows = b ∷ bs } ]

read_digit : (n d : ℕ) (bs : List ℕ) → read_number n ((48 + d) ∷ bs) ≡ read_number (n * 10 + d) bs
unfolding read_number
read_digit n d bs =
    let l : 48 ≤ 48 + d = omega arith in
    let e : 48 + d - 48 ≡ d = omega arith in
    rw (read_number, le-leb 48 (48 + d) l, e)

read_other : (n b : ℕ) (bs : List ℕ) → b < 48 → read_number n (b ∷ bs) ≡ record { value = n; follows = b ∷ bs }
unfolding read_number
read_other n b bs h = rw (read_number, lt-leb 48 b h)

read_decimal : (k n : ℕ) (bs : List ℕ) → n < k → read_number 0 (decimal n ++ bs) ≡ read_number n bs
read_decimal zero n bs h = absurd (omega arith)
read_decimal (suc k) n bs h = by_test (ltb n 10)
    (λ e.
    let s : n < 10 = ltb-true n 10 e in
    let z : 0 * 10 + n % 10 ≡ n = omega arith in
    ap (λ (l : List ℕ). read_number 0 (l ++ bs)) (decimal_one n s) ∙ read_digit 0 (n % 10) bs ∙ ap (λ (m : ℕ). read_number m bs) z)
    (λ e.
    let s : 10 ≤ n = ltb-false n 10 e in
    let z : n / 10 * 10 + n % 10 ≡ n = omega arith in
    ap (λ (l : List ℕ). read_number 0 (l ++ bs)) (decimal_more n s)
    ∙ ap (read_number 0) (append_assoc (decimal (n / 10)) ((48 + n % 10) ∷ []) bs)
    ∙ read_decimal k (n / 10) ((48 + n % 10) ∷ bs) (omega arith)
    ∙ read_digit (n / 10) (n % 10) bs
    ∙ ap (λ (m : ℕ). read_number m bs) z)

-- Where what follows a number begins with no digit, the number and what follows it can be told from the whole.
pub decimal_told : (n m b c : ℕ) (x y : List ℕ) → b < 48 → c < 48 → decimal n ++ (b ∷ x) ≡ decimal m ++ (c ∷ y) → (n ≡ m) × ((b ∷ x) ≡ (c ∷ y))
decimal_told n m b c x y h l e =
    let r : ◌≡◌ {A = Number} (record { value = n; follows = b ∷ x }) (record { value = m; follows = c ∷ y }) =
    sym (read_other n b x h) ∙ sym (read_decimal (suc n) n (b ∷ x) (omega arith)) ∙ ap (read_number 0) e
    ∙ read_decimal (suc m) m (c ∷ y) (omega arith) ∙ read_other m c y l in
    (ap (λ (q : Number). q.value) r, ap (λ (q : Number). q.follows) r)
