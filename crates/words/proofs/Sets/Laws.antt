-- What holds of sets as words, for every width.
-- Assumes nothing.
use Rattle.std.specs.Prelude.{ℕ, zero, suc, ◌+◌, ◌-◌, ◌*◌, ◌/◌, ◌%◌, ◌^◌, ◌<◌, ◌≤◌, max, Bool, true, false, ◌||◌, ◌≡◌, refl, ◌⊎◌, eqb}
use Rattle.std.proofs.lemmas.Bool.{false≢true}
use Rattle.std.proofs.Math.Bool.{or_comm, or_assoc, or-true}
use Rattle.std.proofs.Common.{ap, ap₂, sym, ◌∙◌, subst, inl, inr, ⊎_elim, div-one, one-mul, lt_of_lt_of_le, lt_of_not-le, mod-eq_of_lt, add-zero, zero-add, suc-add, mul-one, mul_comm, arith, pow_mono, eqb-true, eq-eqb}
use Rattle.std.proofs.Math.Logic.{⊎_map}
use mathlib.Core.List.Memᴰ
use mathlib.Core.List.{List, [], ◌∷◌, Memᴰ}
use Rattle.std.proofs.Math.Nat.{div-div-eq-div-mul, pow-succ', zero-div, div-eq_of_lt, mul-sub}
use Rattle.std.proofs.Math.Dec.{eqb-zero-suc, eqb-suc-zero, eqb-suc-suc}
use Rattle.std.proofs.Math.Arith.{bin_ind}
use Rattle.std.specs.Int.Bits.{bit_or, digits, or_step, shifted_half, shifted_even}
use Prim.Native.Nat.{bit_or-bitwise}
use Rattle.std.proofs.lemmas.Nat.{or_shr}
use Rattle.std.proofs.Math.Pow.{pow-lt}
use Rattle.words.specs.Laws.Tests.{or_cases, equal_tests}
use Rattle.words.specs.Order.{rising, rising_from}
use Rattle.words.specs.Order.Laws.{less_one, rising_from_cons}
use Rattle.words.specs.Sets.{member, single, join_bits, join, part_of, members_from, members}

-- ---- one bit

pub even_or_odd : (x : ℕ) → (x % 2 ≡ 0) ⊎ (x % 2 ≡ 1)
even_or_odd x = go (x % 2) (omega arith)
  where
    go : (k : ℕ) → k < 2 → (k ≡ 0) ⊎ (k ≡ 1)
    go zero h = inl refl
    go (suc zero) h = inr refl
    go (suc (suc k)) h = absurd (omega arith)

pub by_parity : (x : ℕ) {X : Type 0} → (x % 2 ≡ 0 → X) → (x % 2 ≡ 1 → X) → X
by_parity x f g = ⊎_elim f g (even_or_odd x)

pub member_zero : (s : ℕ) → member s 0 ≡ eqb (s % 2) 1
unfolding member
member_zero s = ap (λ (k : ℕ). eqb (k % 2) 1) (div-one s)

pub member_suc : (s n : ℕ) → member s (suc n) ≡ member (s / 2) n
unfolding member
member_suc s n = ap (λ (k : ℕ). eqb (k % 2) 1) (ap (λ (k : ℕ). s / k) (pow-succ' 2 n) ∙ sym (div-div-eq-div-mul s 2 (2 ^ n)))

pub member_empty : (n : ℕ) → member 0 n ≡ false
unfolding member
member_empty n = ap (λ (k : ℕ). eqb (k % 2) 1) (zero-div (2 ^ n))

pub member_single : (q n : ℕ) → member (single q) n ≡ eqb q n
unfolding single
member_single zero zero = member_zero 1
member_single zero (suc n) = member_suc 1 n ∙ member_empty n ∙ sym (eqb-zero-suc n)
member_single (suc q) zero =
    let e : 2 ^ suc q ≡ 2 * 2 ^ q = pow-succ' 2 q in
    let z : 2 ^ suc q % 2 ≡ 0 = omega arith in
    member_zero (2 ^ suc q) ∙ ap (λ (k : ℕ). eqb k 1) z ∙ sym (eqb-suc-zero q)
member_single (suc q) (suc n) =
    let e : 2 ^ suc q ≡ 2 * 2 ^ q = pow-succ' 2 q in
    let z : 2 ^ suc q / 2 ≡ 2 ^ q = omega arith in
    member_suc (2 ^ suc q) n ∙ ap (λ (k : ℕ). member k n) z ∙ member_single q n ∙ sym (eqb-suc-suc q n)

-- ---- the join is the machine's `or`

pub join_bits_or : (k a b : ℕ) → join_bits k a b ≡ digits (λ c. c) max k a b
unfolding join_bits
join_bits_or zero a b = refl
join_bits_or (suc k) zero b = refl
join_bits_or (suc k) (suc a) b =
    rw (eqb-suc-zero a, join_bits) (ap (λ (x : ℕ). x * 2 + max (suc a % 2) (b % 2)) (join_bits_or k (suc a / 2) (b / 2)))

pub join_or : (a b : ℕ) → join a b ≡ bit_or a b
unfolding join join_bits
join_or zero b = refl
join_or (suc a) b = join_bits_or (suc a) (suc a) b ∙ sym (bit_or-bitwise (suc a) b)

pub or_bit : (a b : ℕ) → eqb (bit_or a b % 2) 1 ≡ eqb (a % 2) 1 || eqb (b % 2) 1
or_bit a b =
    let e : bit_or a b ≡ bit_or (a / 2) (b / 2) * 2 + max (a % 2) (b % 2) = or_step a b in
    by_parity a
    (λ x. by_parity b
    (λ y. let z : bit_or a b % 2 ≡ 0 = omega arith in rw (z, x, y))
    (λ y. let z : bit_or a b % 2 ≡ 1 = omega arith in rw (z, x, y)))
    (λ x. let z : bit_or a b % 2 ≡ 1 = omega arith in rw (z, x))

pub member_join : (a b n : ℕ) → member (join a b) n ≡ member a n || member b n
unfolding member
member_join a b n =
    ap (λ (k : ℕ). eqb (k / 2 ^ n % 2) 1) (join_or a b)
    ∙ ap (λ (k : ℕ). eqb (k % 2) 1) (or_shr a b n) ∙ or_bit (a / 2 ^ n) (b / 2 ^ n)

-- ---- a word is the set of its members

pub bit_eq : (x y : ℕ) → eqb (x % 2) 1 ≡ eqb (y % 2) 1 → x % 2 ≡ y % 2
bit_eq x y e = by_parity x
    (λ z. by_parity y (λ w. z ∙ sym w) (λ w. absurd (false≢true (rw (z, w) at e))))
    (λ z. by_parity y (λ w. absurd (false≢true (sym (rw (z, w) at e)))) (λ w. z ∙ sym w))

pub ext : (w a b : ℕ) → a < 2 ^ w → b < 2 ^ w → ((n : ℕ) → n < w → member a n ≡ member b n) → a ≡ b
ext zero a b ha hb h = omega arith
ext (suc w) a b ha hb h =
    let p : 2 ^ suc w ≡ 2 * 2 ^ w = pow-succ' 2 w in
    let k : a / 2 ≡ b / 2 = ext w (a / 2) (b / 2) (omega arith) (omega arith) (λ n l. sym (member_suc a n) ∙ h (suc n) (omega arith) ∙ member_suc b n) in
    let r : a % 2 ≡ b % 2 = bit_eq a b (sym (member_zero a) ∙ h 0 (omega arith) ∙ member_zero b) in
    omega arith

pub below_pow : (n : ℕ) → n < 2 ^ n
below_pow zero = omega arith
below_pow (suc n) =
    let p : 2 ^ suc n ≡ 2 * 2 ^ n = pow-succ' 2 n in
    let h : n < 2 ^ n = below_pow n in
    omega arith

pub ext_all : (a b : ℕ) → ((n : ℕ) → member a n ≡ member b n) → a ≡ b
ext_all a b h =
    let ha : 2 ^ a ≤ 2 ^ (a + b) = pow_mono (omega arith) in
    let hb : 2 ^ b ≤ 2 ^ (a + b) = pow_mono (omega arith) in
    ext (a + b) a b (lt_of_lt_of_le (below_pow a) ha) (lt_of_lt_of_le (below_pow b) hb) (λ n l. h n)

-- ---- laws of the join

pub join_comm : (a b : ℕ) → join a b ≡ join b a
join_comm a b = ext_all (join a b) (join b a) λ n. member_join a b n ∙ or_comm (member a n) (member b n) ∙ sym (member_join b a n)

pub join_assoc : (a b c : ℕ) → join (join a b) c ≡ join a (join b c)
join_assoc a b c = ext_all (join (join a b) c) (join a (join b c)) λ n.
    member_join (join a b) c n
    ∙ ap (λ (t : Bool). t || member c n) (member_join a b n)
    ∙ or_assoc (member a n) (member b n) (member c n)
    ∙ ap (λ (t : Bool). member a n || t) (sym (member_join b c n))
    ∙ sym (member_join a (join b c) n)

pub join_empty_left : (a : ℕ) → join 0 a ≡ a
unfolding join join_bits
join_empty_left a = refl

pub join_empty_right : (a : ℕ) → join a 0 ≡ a
join_empty_right a = join_comm a 0 ∙ join_empty_left a

-- ---- words of a width

-- the machine's `1 << n`, where words have w bits
pub one_shifted : (w n : ℕ) → n < w → 1 * 2 ^ n % 2 ^ w ≡ 2 ^ n
one_shifted w n h = ap (λ (k : ℕ). k % 2 ^ w) (one-mul (2 ^ n)) ∙ mod-eq_of_lt (pow-lt h)

pub member_below : (w s n : ℕ) → s < 2 ^ w → member s n ≡ true → n < w
unfolding member
member_below w s n h e = lt_of_not-le λ k. false≢true (ap (λ (x : ℕ). eqb (x % 2) 1) (sym (div-eq_of_lt (lt_of_lt_of_le h (pow_mono k)))) ∙ e)

-- ---- membership as a type, and what all members have

-- n is a member of s; as a record, so that s and n are read off a fact
pub record Has (s n : ℕ) : Type 0 where
  pub has : member s n ≡ true

-- every member of s has P
abbrev pub All : ℕ → (ℕ → Type 0) → Type 0
All s P = (n : ℕ) → Has s n → P n

pub has_below : (w : ℕ) {s n : ℕ} → s < 2 ^ w → Has s n → n < w
has_below w {s} {n} l h = member_below w s n l h.has

pub has_empty : {n : ℕ} → Has 0 n → ⊥
has_empty {n} h = false≢true (sym (member_empty n) ∙ h.has)

pub has_single : (q : ℕ) → Has (single q) q
has_single q = record { has = member_single q q ∙ eq-eqb q q refl }

pub single_has : {q n : ℕ} → Has (single q) n → q ≡ n
single_has {q} {n} h = eqb-true q n (sym (member_single q n) ∙ h.has)

pub has_join_left : {a n : ℕ} (b : ℕ) → Has a n → Has (join a b) n
has_join_left {a} {n} b h = record { has = member_join a b n ∙ ap (λ (t : Bool). t || member b n) h.has }

pub has_join_right : (a : ℕ) {b n : ℕ} → Has b n → Has (join a b) n
has_join_right a {b} {n} h = record { has = member_join a b n ∙ ap (λ (t : Bool). member a n || t) h.has ∙ or-true (member a n) }

pub join_cases : (a b : ℕ) {n : ℕ} → Has (join a b) n → Has a n ⊎ Has b n
join_cases a b {n} h =
    ⊎_map (λ e. record { has = e }) (λ e. record { has = e }) (or_cases (member a n) (member b n) (sym (member_join a b n) ∙ h.has))

pub all_empty : (P : ℕ → Type 0) → All 0 P
all_empty P n h = absurd (has_empty h)

pub all_join : {a b : ℕ} {P : ℕ → Type 0} → All a P → All b P → All (join a b) P
all_join {a} {b} x y n h = ⊎_elim (x n) (y n) (join_cases a b h)

pub all_left : (a b : ℕ) {P : ℕ → Type 0} → All (join a b) P → All a P
all_left a b x n h = x n (has_join_left b h)

pub all_right : (a b : ℕ) {P : ℕ → Type 0} → All (join a b) P → All b P
all_right a b x n h = x n (has_join_right a h)

pub all_single : (P : ℕ → Type 0) (q : ℕ) → P q → All (single q) P
all_single P q y n h = subst P (single_has h) y

pub all_one : (q : ℕ) {P : ℕ → Type 0} → All (single q) P → P q
all_one q x = x q (has_single q)

-- a set is empty or has a member
pub zero_or_member : (s : ℕ) → (s ≡ 0) ⊎ ((n : ℕ) × Has s n)
zero_or_member = bin_ind (λ (s : ℕ). (s ≡ 0) ⊎ ((n : ℕ) × Has s n)) (inl refl) step
  where
    step : (s : ℕ) → (s / 2 ≡ 0) ⊎ ((n : ℕ) × Has (s / 2) n) → (s ≡ 0) ⊎ ((n : ℕ) × Has s n)
    step s (inl z) = by_parity s (λ e. inl (omega arith)) (λ o. inr (0, record { has = member_zero s ∙ eq-eqb (s % 2) 1 o }))
    step s (inr x) = inr (suc x.0, record { has = member_suc s x.0 ∙ x.1.has })

-- a set of numbers below w is a word below 2 ^ w
pub all_below : (w s : ℕ) → All s (λ n. n < w) → s < 2 ^ w
all_below zero s h = ⊎_elim (λ z. omega arith) (λ x. let l : x.0 < 0 = h x.0 x.1 in absurd (omega arith)) (zero_or_member s)
all_below (suc w) s h =
    let p : 2 ^ suc w ≡ 2 * 2 ^ w = pow-succ' 2 w in
    let l : s / 2 < 2 ^ w = all_below w (s / 2) (λ n x. let k : suc n < suc w = h (suc n) (record { has = member_suc s n ∙ x.has }) in omega arith) in
    omega arith

-- ---- parts

pub same_members : (x y : Bool) → (x ≡ true → y ≡ true) → x || y ≡ y
same_members true y f = sym (f refl)
same_members false y f = refl

-- a is a part of b exactly if every member of a is a member of b
pub part_has : (a b : ℕ) → part_of a b ≡ true → All a (Has b)
unfolding part_of
part_has a b e n h = subst (λ (s : ℕ). Has s n) (eqb-true (join a b) b e) (has_join_left b h)

pub has_part : {a b : ℕ} → All a (Has b) → part_of a b ≡ true
unfolding part_of
has_part {a} {b} f = eq-eqb (join a b) b (ext_all (join a b) b λ n.
    member_join a b n ∙ same_members (member a n) (member b n) (λ e. (f n (record { has = e })).has))

-- n is a member of s exactly if the set whose only member is n is a part of s
pub single_part : (s n : ℕ) → part_of (single n) s ≡ member s n
single_part s n = equal_tests _ _
    (λ e. (part_has (single n) s e n (has_single n)).has)
    (λ e. has_part (all_single (Has s) n (record { has = e })))

pub part_join : (a b : ℕ) → part_of a b ≡ true → join a b ≡ b
unfolding part_of
part_join a b e = eqb-true (join a b) b e

pub part_refl : (a : ℕ) → part_of a a ≡ true
part_refl a = has_part {a = a} λ n h. h

pub part_trans : (a b c : ℕ) → part_of a b ≡ true → part_of b c ≡ true → part_of a c ≡ true
part_trans a b c x y = has_part λ n h. part_has b c y n (part_has a b x n h)

pub part_antisym : (a b : ℕ) → part_of a b ≡ true → part_of b a ≡ true → a ≡ b
part_antisym a b x y = sym (part_join b a y) ∙ join_comm b a ∙ part_join a b x

pub part_empty : (a : ℕ) → part_of 0 a ≡ true
part_empty a = has_part (all_empty (Has a))

pub part_join_left : (a b : ℕ) → part_of a (join a b) ≡ true
part_join_left a b = has_part λ n h. has_join_left b h

pub part_join_right : (a b : ℕ) → part_of b (join a b) ≡ true
part_join_right a b = has_part λ n h. has_join_right a h

pub join_zero : (a b : ℕ) → join a b ≡ 0 → (a ≡ 0) × (b ≡ 0)
join_zero a b e = (part_antisym a 0 (rw e at (part_join_left a b)) (part_empty a), part_antisym b 0 (rw e at (part_join_right a b)) (part_empty b))

pub all_part : (a b : ℕ) {P : ℕ → Type 0} → part_of a b ≡ true → All b P → All a P
all_part a b e x n h = x n (part_has a b e n h)

-- ---- the list of the members

pub members_from_empty : (k n : ℕ) → members_from k n 0 ≡ []
unfolding members_from
members_from_empty zero n = refl
members_from_empty (suc k) n = refl

pub members_from_even : (k n s : ℕ) → s % 2 ≡ 0 → members_from (suc k) n s ≡ members_from k (suc n) (s / 2)
unfolding members_from
members_from_even k n zero e = sym (members_from_empty k (suc n))
members_from_even k n (suc s) e = rw (members_from, eqb-suc-zero s, e)

pub members_from_odd : (k n s : ℕ) → s % 2 ≡ 1 → members_from (suc k) n s ≡ n ∷ members_from k (suc n) (s / 2)
unfolding members_from
members_from_odd k n zero e = absurd (omega arith)
members_from_odd k n (suc s) e = rw (members_from, eqb-suc-zero s, e)

-- any bound that holds all bits of s gives the same members
pub members_from_bound : (k m n s : ℕ) → s < 2 ^ k → s < 2 ^ m → members_from k n s ≡ members_from m n s
members_from_bound zero m n s hk hm = let z : s ≡ 0 = omega arith in rw z (members_from_empty 0 n ∙ sym (members_from_empty m n))
members_from_bound (suc k) zero n s hk hm = let z : s ≡ 0 = omega arith in rw z (members_from_empty (suc k) n ∙ sym (members_from_empty 0 n))
members_from_bound (suc k) (suc m) n s hk hm =
    let p : 2 ^ suc k ≡ 2 * 2 ^ k = pow-succ' 2 k in
    let r : 2 ^ suc m ≡ 2 * 2 ^ m = pow-succ' 2 m in
    let below : members_from k (suc n) (s / 2) ≡ members_from m (suc n) (s / 2) = members_from_bound k m (suc n) (s / 2) (omega arith) (omega arith) in
    by_parity s
    (λ e. members_from_even k n s e ∙ below ∙ sym (members_from_even m n s e))
    (λ o. members_from_odd k n s o ∙ ap (λ (l : List ℕ). n ∷ l) below ∙ sym (members_from_odd m n s o))

pub members_bound : (w s : ℕ) → s < 2 ^ w → members s ≡ members_from w 0 s
unfolding members
members_bound w s h = members_from_bound s w 0 s (below_pow s) h

pub members_from_later : (k m s : ℕ) {y : ℕ} → Memᴰ y (members_from k (suc m) (s / 2)) → Memᴰ y (members_from (suc k) m s)
members_from_later k m s {y} j = by_parity s (λ e. rw (members_from_even k m s e) j) (λ o. rw (members_from_odd k m s o) (Memᴰ.tail j))

pub members_from_in : (k m s n : ℕ) → s < 2 ^ k → member s n ≡ true → Memᴰ (m + n) (members_from k m s)
members_from_in zero m s n l e = let z : s ≡ 0 = omega arith in absurd (false≢true (sym (member_empty n) ∙ (rw z at e)))
members_from_in (suc k) m s zero l e =
    rw (members_from_odd k m s (eqb-true (s % 2) 1 (sym (member_zero s) ∙ e))) (Memᴰ.head (add-zero m))
members_from_in (suc k) m s (suc n) l e =
    let p : 2 ^ suc k ≡ 2 * 2 ^ k = pow-succ' 2 k in
    let q : m + suc n ≡ suc m + n = omega arith in
    members_from_later k m s (Memᴰ.cast q (members_from_in k (suc m) (s / 2) n (omega arith) (sym (member_suc s n) ∙ e)))

pub members_from_out : (k m s y : ℕ) → Memᴰ y (members_from k m s) → (n : ℕ) × (y ≡ m + n) × Has s n
unfolding members_from
members_from_out zero m s y j = absurd (Memᴰ.not-nil j)
members_from_out (suc k) m s y j = by_parity s
    (λ e. later (members_from_out k (suc m) (s / 2) y (rw (members_from_even k m s e) at j)))
    (λ o. ⊎_elim
    (λ e. (0, e ∙ sym (add-zero m), record { has = member_zero s ∙ eq-eqb (s % 2) 1 o }))
    (λ i. later (members_from_out k (suc m) (s / 2) y i))
    (Memᴰ.cases_cons (rw (members_from_odd k m s o) at j)))
  where
    later : (n : ℕ) × (y ≡ suc m + n) × Has (s / 2) n → (n : ℕ) × (y ≡ m + n) × Has s n
    later x = let e : y ≡ suc m + x.0 = x.1 in (suc x.0, omega arith, record { has = member_suc s x.0 ∙ x.2.has })

pub has_in : {s n : ℕ} → Has s n → Memᴰ n (members s)
unfolding members
has_in {s} {n} h = Memᴰ.cast (sym (zero-add n)) (members_from_in s 0 s n (below_pow s) h.has)

pub in_has : (s : ℕ) {n : ℕ} → Memᴰ n (members s) → Has s n
unfolding members
in_has s {n} j = let x = members_from_out s 0 s n j in subst (Has s) (sym (x.1 ∙ zero-add x.0)) x.2

pub members_empty : members 0 ≡ []
unfolding members
members_empty = members_from_empty 0 0

-- ---- the members in rising order, and the least of them

pub members_from_after : (k n s x : ℕ) → x < n → rising_from (λ m. m ∷ []) x (members_from k n s) ≡ true
unfolding members_from rising_from
members_from_after zero n s x h = refl
members_from_after (suc k) n s x h = by_parity s
    (λ e. rw (members_from_even k n s e) (members_from_after k (suc n) (s / 2) x (omega arith)))
    (λ o. rw (members_from_odd k n s o) (rising_from_cons (λ m. m ∷ []) x n (members_from k (suc n) (s / 2)) (less_one x n h) (members_from_after k (suc n) (s / 2) n (omega arith))))

pub members_from_rising : (k n s : ℕ) → rising (λ m. m ∷ []) (members_from k n s) ≡ true
unfolding members_from rising
members_from_rising zero n s = refl
members_from_rising (suc k) n s = by_parity s
    (λ e. rw (members_from_even k n s e) (members_from_rising k (suc n) (s / 2)))
    (λ o. rw (members_from_odd k n s o) (members_from_after k (suc n) (s / 2) n (omega arith)))

pub members_rising : (s : ℕ) → rising (λ m. m ∷ []) (members s) ≡ true
unfolding members
members_rising s = members_from_rising s 0 s

pub members_from_shifted : (q k n x : ℕ) → members_from (q + k) n (x * 2 ^ q) ≡ members_from k (q + n) x
members_from_shifted zero k n x = simp (zero-add, mul-one)
members_from_shifted (suc q) k n x =
    let e : q + suc n ≡ suc q + n = omega arith in
    ap (λ (m : ℕ). members_from m n (x * 2 ^ suc q)) (suc-add q k)
    ∙ members_from_even (q + k) n (x * 2 ^ suc q) (shifted_even x q)
    ∙ ap (members_from (q + k) (suc n)) (shifted_half x q)
    ∙ members_from_shifted q k (suc n) x
    ∙ ap (λ (m : ℕ). members_from k m x) e

pub members_from_least : (q k x : ℕ) → x % 2 ≡ 1 → members_from (q + suc k) 0 (x * 2 ^ q) ≡ q ∷ members_from (q + suc k) 0 ((x - 1) * 2 ^ q)
members_from_least q k x o =
    let z : (x - 1) % 2 ≡ 0 = omega arith in
    let h : x / 2 ≡ (x - 1) / 2 = omega arith in
    members_from_shifted q (suc k) 0 x
    ∙ members_from_odd k (q + 0) x o
    ∙ ap₂ (λ (m : ℕ) (l : List ℕ). m ∷ l) (add-zero q)
    (ap (members_from k (suc (q + 0))) h ∙ sym (members_from_even k (q + 0) (x - 1) z) ∙ sym (members_from_shifted q (suc k) 0 (x - 1)))

-- the least member is the number of zeros below the lowest one
pub members_least : (s x q : ℕ) → s ≡ x * 2 ^ q → x % 2 ≡ 1 → members s ≡ q ∷ members (s - 2 ^ q)
members_least s x q e o =
    let w : ℕ = q + suc s in
    let l : s < 2 ^ w = lt_of_lt_of_le (below_pow s) (pow_mono (omega arith)) in
    let m : (x - 1) * 2 ^ q ≡ s - 2 ^ q = mul_comm (x - 1) (2 ^ q) ∙ mul-sub (2 ^ q) x 1 ∙ ap₂ ◌-◌ (mul_comm (2 ^ q) x ∙ sym e) (mul-one (2 ^ q)) in
    members_bound w s l
    ∙ ap (members_from w 0) e
    ∙ members_from_least q s x o
    ∙ ap (λ (r : ℕ). q ∷ members_from w 0 r) m
    ∙ ap (λ (r : List ℕ). q ∷ r) (sym (members_bound w (s - 2 ^ q) (omega arith)))
