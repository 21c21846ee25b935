-- Sets whose members all lie below a bound, or none does, told by the bound's one-bit word.
-- Assumes nothing.
use Rattle.std.specs.Prelude.{ℕ, suc, ◌+◌, ◌-◌, ◌/◌, ◌%◌, ◌^◌, ◌<◌, ◌≤◌, ◌≡◌, eqb, ltb, leb}
use Rattle.std.proofs.Common.{ap, sym, ◌∙◌, ⊎_elim, mod-lt, arith, pow_pos, eqb-true, eq-eqb, ltb-true, ltb-false, lt-ltb, leb-true, le-leb}
use Rattle.std.proofs.Math.Pow.{field, mod-mod-pow}
use Rattle.words.specs.Sets.{member, members}
use Rattle.words.proofs.Sets.Laws.{All, all_below, has_below, has_empty, has_in, in_has, zero_or_member}
use Rattle.words.specs.Lists.{every}
use Rattle.words.specs.Lists.Laws.{in_every, every_in}
use Rattle.words.specs.Laws.Tests.{by_test, equal_tests}

-- ---- members of the low part of a word

member_low : (s k n : ℕ) → n < k → member (s % 2 ^ k) n ≡ member s n
unfolding member
member_low s k n h =
    let e : k ≡ (k - suc n + 1) + n = omega arith in
    let x : s % 2 ^ k / 2 ^ n ≡ s / 2 ^ n % 2 ^ (k - suc n + 1) = ap (λ (i : ℕ). s % 2 ^ i / 2 ^ n) e ∙ field s (k - suc n + 1) n in
    let y : s / 2 ^ n % 2 ^ (k - suc n + 1) % 2 ≡ s / 2 ^ n % 2 = mod-mod-pow (s / 2 ^ n) (k - suc n) 1 in
    ap (λ (i : ℕ). eqb (i % 2) 1) x ∙ ap (λ (i : ℕ). eqb i 1) y

remainder_from : (k s : ℕ) → s % 2 ^ k ≡ 0 → All s (λ n. k ≤ n)
remainder_from k s e n m =
    by_test (ltb n k)
    (λ t. absurd (has_empty (record { has = ap (λ (x : ℕ). member x n) (sym e) ∙ member_low s k n (ltb-true _ _ t) ∙ m.has })))
    (λ t. ltb-false _ _ t)

from_remainder : (k s : ℕ) → All s (λ n. k ≤ n) → s % 2 ^ k ≡ 0
from_remainder k s f =
    ⊎_elim (λ e. e)
    (λ m.
    let l : m.0 < k = has_below k (mod-lt s (pow_pos k)) m.1 in
    let z : k ≤ m.0 = f m.0 (record { has = sym (member_low s k m.0 l) ∙ m.1.has }) in
    absurd (omega arith))
    (zero_or_member (s % 2 ^ k))

-- ---- the tests

-- every member is less than k
pub every_below : (k s : ℕ) → every (λ n. ltb n k) (members s) ≡ ltb s (2 ^ k)
every_below k s =
    equal_tests _ _
    (λ t. lt-ltb _ _ (all_below k s (λ n m. ltb-true _ _ (every_in (λ (i : ℕ). ltb i k) t (has_in m)))))
    (λ t. in_every _ (members s) (λ n m. lt-ltb _ _ (has_below k (ltb-true _ _ t) (in_has s m))))

-- no member is less than k
pub every_from : (k s : ℕ) → every (λ n. leb k n) (members s) ≡ eqb (s % 2 ^ k) 0
every_from k s =
    equal_tests _ _
    (λ t. eq-eqb _ _ (from_remainder k s (λ n m. leb-true _ _ (every_in (λ (i : ℕ). leb k i) t (has_in m)))))
    (λ t. in_every _ (members s) (λ n m. le-leb _ _ (remainder_from k s (eqb-true _ _ t) n (in_has s m))))
