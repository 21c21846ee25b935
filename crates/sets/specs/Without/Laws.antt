-- The members of a set without one of them.
-- Assumes nothing.
use Rattle.std.specs.Prelude.{ℕ, zero, suc, ◌+◌, ◌-◌, ◌*◌, ◌/◌, ◌%◌, ◌^◌, ◌<◌, ◌≤◌, true, false, ◌≡◌, refl, List, [], ◌∷◌, ◌++◌, length}
use Rattle.std.proofs.lemmas.Bool.{false≢true}
use Rattle.std.proofs.Common.{ap, sym, ◌∙◌, add-zero, zero-add, lt_of_le_of_lt, arith, length-append, eqb-true, eq-eqb}
use Rattle.std.proofs.Math.Nat.{pow-succ'}
use Rattle.words.specs.Sets.{member, single, members_from, members}
use Rattle.words.proofs.Sets.Laws.{Has, by_parity, member_zero, member_suc, member_empty, members_from_even, members_from_odd, below_pow, members_bound}
use Rattle.sets.specs.Without.{without}

odd : (s : ℕ) → member s 0 ≡ true → s % 2 ≡ 1
odd s e = eqb-true (s % 2) 1 (sym (member_zero s) ∙ e)

-- the bit of a member is in the set
single_below : (s n : ℕ) → member s n ≡ true → 2 ^ n ≤ s
single_below s zero e = let o : s % 2 ≡ 1 = odd s e in omega arith
single_below s (suc n) e =
    let p : 2 ^ suc n ≡ 2 * 2 ^ n = pow-succ' 2 n in
    let h : 2 ^ n ≤ s / 2 = single_below (s / 2) n (sym (member_suc s n) ∙ e) in
    omega arith

-- ---- member by member

-- n is no member any more
without_gone : (s n : ℕ) → member s n ≡ true → member (s - 2 ^ n) n ≡ false
without_gone s zero e =
    let o : s % 2 ≡ 1 = odd s e in
    let z : (s - 1) % 2 ≡ 0 = omega arith in
    member_zero (s - 1) ∙ rw z refl
without_gone s (suc n) e =
    let p : 2 ^ suc n ≡ 2 * 2 ^ n = pow-succ' 2 n in
    let k : member (s / 2) n ≡ true = sym (member_suc s n) ∙ e in
    let b : 2 ^ n ≤ s / 2 = single_below (s / 2) n k in
    let h : (s - 2 ^ suc n) / 2 ≡ s / 2 - 2 ^ n = omega arith in
    member_suc (s - 2 ^ suc n) n ∙ ap (λ (x : ℕ). member x n) h ∙ without_gone (s / 2) n k

-- the others are members of s
without_kept : (s n m : ℕ) → member s n ≡ true → member (s - 2 ^ n) m ≡ true → member s m ≡ true
without_kept s zero zero e h = e
without_kept s zero (suc m) e h =
    let o : s % 2 ≡ 1 = odd s e in
    let d : (s - 1) / 2 ≡ s / 2 = omega arith in
    member_suc s m ∙ ap (λ (x : ℕ). member x m) (sym d) ∙ sym (member_suc (s - 1) m) ∙ h
without_kept s (suc n) zero e h =
    let p : 2 ^ suc n ≡ 2 * 2 ^ n = pow-succ' 2 n in
    let b : 2 ^ suc n ≤ s = single_below s (suc n) e in
    let o : (s - 2 ^ suc n) % 2 ≡ 1 = odd (s - 2 ^ suc n) h in
    let d : s % 2 ≡ 1 = omega arith in
    member_zero s ∙ eq-eqb (s % 2) 1 d
without_kept s (suc n) (suc m) e h =
    let p : 2 ^ suc n ≡ 2 * 2 ^ n = pow-succ' 2 n in
    let k : member (s / 2) n ≡ true = sym (member_suc s n) ∙ e in
    let b : 2 ^ n ≤ s / 2 = single_below (s / 2) n k in
    let d : (s - 2 ^ suc n) / 2 ≡ s / 2 - 2 ^ n = omega arith in
    member_suc s m ∙ without_kept (s / 2) n m k (ap (λ (x : ℕ). member x m) (sym d) ∙ sym (member_suc (s - 2 ^ suc n) m) ∙ h)

pub without_has : (s n : ℕ) {m : ℕ} → member s n ≡ true → Has (without s n) m → Has s m × (m ≡ n → ⊥)
unfolding without single
without_has s n {m} e h =
    (record { has = without_kept s n m e h.has }, λ q. false≢true (sym (without_gone s n e) ∙ ap (member (s - 2 ^ n)) (sym q) ∙ h.has))

-- ---- the list of the members

-- What stands before and after n in a list, and the list without n.
pub record Taken (l : List ℕ) (n : ℕ) (others : List ℕ) : Type 0 where
  pub before : List ℕ
  pub after : List ℕ
  pub there : l ≡ before ++ n ∷ after
  pub left : others ≡ before ++ after

from_taken : (k m s n : ℕ) → s < 2 ^ k → member s n ≡ true → Taken (members_from k m s) (m + n) (members_from k m (s - 2 ^ n))
from_taken zero m s n l e = let z : s ≡ 0 = omega arith in absurd (false≢true (sym (member_empty n) ∙ (rw z at e)))
from_taken (suc k) m s zero l e =
    let o : s % 2 ≡ 1 = odd s e in
    let z : (s - 1) % 2 ≡ 0 = omega arith in
    let d : (s - 1) / 2 ≡ s / 2 = omega arith in
    record {
      before = [];
      after = members_from k (suc m) (s / 2);
      there = members_from_odd k m s o ∙ ap (λ (x : ℕ). x ∷ members_from k (suc m) (s / 2)) (sym (add-zero m));
      left = members_from_even k m (s - 1) z ∙ ap (members_from k (suc m)) d;
    }
from_taken (suc k) m s (suc n) l e =
    let p : 2 ^ suc n ≡ 2 * 2 ^ n = pow-succ' 2 n in
    let w : 2 ^ suc k ≡ 2 * 2 ^ k = pow-succ' 2 k in
    let x : member (s / 2) n ≡ true = sym (member_suc s n) ∙ e in
    let b : 2 ^ n ≤ s / 2 = single_below (s / 2) n x in
    let d : (s - 2 ^ suc n) / 2 ≡ s / 2 - 2 ^ n = omega arith in
    let q : suc m + n ≡ m + suc n = omega arith in
    let t : Taken (members_from k (suc m) (s / 2)) (suc m + n) (members_from k (suc m) (s / 2 - 2 ^ n)) = from_taken k (suc m) (s / 2) n (omega arith) x in
    by_parity s
    (λ v. let v' : (s - 2 ^ suc n) % 2 ≡ 0 = omega arith in
    record {
      before = t.before;
      after = t.after;
      there = members_from_even k m s v ∙ t.there ∙ ap (λ (y : ℕ). t.before ++ y ∷ t.after) q;
      left = members_from_even k m (s - 2 ^ suc n) v' ∙ ap (members_from k (suc m)) d ∙ t.left;
    })
    (λ v. let v' : (s - 2 ^ suc n) % 2 ≡ 1 = omega arith in
    record {
      before = m ∷ t.before;
      after = t.after;
      there = members_from_odd k m s v ∙ ap (λ (y : List ℕ). m ∷ y) (t.there ∙ ap (λ (y : ℕ). t.before ++ y ∷ t.after) q);
      left = members_from_odd k m (s - 2 ^ suc n) v' ∙ ap (λ (y : List ℕ). m ∷ y) (ap (members_from k (suc m)) d ∙ t.left);
    })

pub members_taken : (s n : ℕ) → member s n ≡ true → Taken (members s) n (members (without s n))
unfolding without single
members_taken s n e =
    let t = from_taken s 0 s n (below_pow s) e in
    let b : s - 2 ^ n < 2 ^ s = lt_of_le_of_lt (omega arith) (below_pow s) in
    record {
      before = t.before;
      after = t.after;
      there = members_bound s s (below_pow s) ∙ t.there ∙ ap (λ (y : ℕ). t.before ++ y ∷ t.after) (zero-add n);
      left = members_bound s (s - 2 ^ n) b ∙ t.left;
    }

pub members_fewer : (s n : ℕ) → member s n ≡ true → length (members s) ≡ suc (length (members (without s n)))
members_fewer s n e =
    let t = members_taken s n e in
    let a = ap length t.there ∙ length-append t.before (n ∷ t.after) in
    let b = ap length t.left ∙ length-append t.before t.after in
    omega (arith, a, b)

-- ---- in the code

pub without_single : (s n bit : ℕ) → bit ≡ single n → s - bit ≡ without s n
unfolding without
without_single s n bit e = ap (λ (k : ℕ). s - k) e

pub bit_in : (s n bit : ℕ) → bit ≡ 2 ^ n → member s n ≡ true → bit ≤ s
bit_in s n bit e h = rw e (single_below s n h)
