-- The number of halvings of a set is its least member.
-- Assumes nothing.
use Rattle.std.specs.Prelude.{ℕ, zero, suc, ◌-◌, ◌*◌, ◌/◌, ◌%◌, ◌^◌, ◌≤◌, ◌<◌, ◌≡◌, refl, ◌∷◌}
use Rattle.std.proofs.Common.{ap, sym, ◌∙◌, one-mul, mul_assoc, mul-le-mul_right, arith}
use Rattle.std.proofs.Math.Nat.{pow-succ'}
use Rattle.std.specs.Int.Count.{count_trailing_zeros, under}
use Rattle.words.specs.Sets.{members}
use Rattle.words.proofs.Sets.Laws.{members_least}
use Rattle.sets.specs.Halving.{Halved}

halving : (x s q : ℕ) → s % 2 ≡ 0 → s / 2 ≡ x * 2 ^ q → s ≡ x * 2 ^ suc q
halving x s q e h =
    let d : s ≡ s / 2 * 2 = omega arith in
    d ∙ ap (λ (k : ℕ). k * 2) h ∙ mul_assoc x (2 ^ q) 2 ∙ ap (λ (k : ℕ). x * k) (let p : 2 ^ q * 2 ≡ 2 ^ suc q = omega (arith, pow-succ' 2 q) in p)

halved_by : (k s t d : ℕ) → 0 < s → s % 2 ≡ d → (0 < s / 2 → Halved k (s / 2) t) → Halved (suc k) s (under d t)
halved_by k s t zero h e rest =
    let r : Halved k (s / 2) t = rest (omega arith) in
    record { left = r.left; is = halving r.left s t e r.is; odd = r.odd; place = omega (arith, r.place) }
halved_by k s t (suc d) h e rest = record { left = s; is = omega arith; odd = omega arith; place = omega arith }

-- the zeros below the lowest 1 are the halvings
pub halved : (k s : ℕ) → 0 < s → s < 2 ^ k → Halved k s (count_trailing_zeros k s)
unfolding count_trailing_zeros
halved zero s h l = absurd (omega arith)
halved (suc k) s h l = halved_by k s (count_trailing_zeros k (s / 2)) (s % 2) h refl (λ m. halved k (s / 2) m (omega (arith, pow-succ' 2 k)))

module _ {s q bit : ℕ} (some : 0 < s) (fits : s < 2 ^ 64) (zeros : q ≡ count_trailing_zeros 64 s) (e : bit ≡ 2 ^ q) where
  h : Halved 64 s q
  h = rw zeros (halved 64 s some fits)

  -- the bit of the least member is in the set
  pub bit_below : bit ≤ s
  bit_below =
      let one : 1 ≤ h.left = omega (arith, h.odd) in
      rw (e, h.is) (rw (one-mul (2 ^ q)) at (mul-le-mul_right (2 ^ q) one))

  pub least_found : members s ≡ q ∷ members (s - bit)
  least_found = members_least s h.left q h.is h.odd ∙ ap (λ (k : ℕ). q ∷ members (s - k)) (sym e)
