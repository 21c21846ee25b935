-- The set of all that a word of so many bits can have as a member.
-- Assumes nothing.
use Rattle.std.specs.Prelude.{ℕ, zero, suc, ◌*◌, ◌/◌, ◌%◌, ◌-◌, ◌^◌, ◌<◌, true, ◌≡◌}
use Rattle.std.proofs.Common.{ap, ◌∙◌, arith, pow_pos, eq-eqb}
use Rattle.std.proofs.Math.Nat.{pow-succ'}
use Rattle.words.specs.Sets.{member}
use Rattle.words.proofs.Sets.Laws.{member_zero, member_suc}

pub full_has : (w n : ℕ) → n < w → member (2 ^ w - 1) n ≡ true
full_has zero n h = absurd (omega arith)
full_has (suc w) zero h =
    let e : 2 ^ suc w ≡ 2 * 2 ^ w = pow-succ' 2 w in
    let p : 0 < 2 ^ w = pow_pos w in
    let z : (2 ^ suc w - 1) % 2 ≡ 1 = omega arith in
    member_zero (2 ^ suc w - 1) ∙ eq-eqb _ _ z
full_has (suc w) (suc n) h =
    let e : 2 ^ suc w ≡ 2 * 2 ^ w = pow-succ' 2 w in
    let p : 0 < 2 ^ w = pow_pos w in
    let z : (2 ^ suc w - 1) / 2 ≡ 2 ^ w - 1 = omega arith in
    member_suc (2 ^ suc w - 1) n ∙ ap (λ (k : ℕ). member k n) z ∙ full_has w n (omega arith)
