-- 12 by the files' test: it fails exactly if two bytes are the same or one is zero.
-- Assumes nothing.
use Rattle.std.specs.Prelude.{ℕ, zero, suc, ◌+◌, ◌<◌, true, false, ◌≡◌, refl, ◌↔◌, ◌⊎◌, List, [], ◌∷◌, length, get_or, eqb}
use Rattle.std.proofs.lemmas.Bool.{false≢true, eqb-false}
use Rattle.std.proofs.Common.{ap, sym, ◌∙◌, inl, inr, ⊎_elim, arith, eqb-true}
use Rattle.words.specs.Laws.Tests.{by_test}
use Rattle.files.specs.Codes.{number_from, our_code, codes_right}
use Rattle.files.specs.Codes.Laws.{number_later, codes_first, code_at}
use Rattle.demands.specs.Refusals.{ZeroCode, SameCodes}

-- ---- a test that fails

-- a code that has a number stands at a place
number_place : (n : ℕ) (codes : List ℕ) (x : ℕ) → (number_from n codes x ≡ 0 → ⊥) → (i : ℕ) × (i < length codes) × (get_or codes i 0 ≡ x)
unfolding number_from
number_place n [] x bad = absurd (bad refl)
number_place n (c ∷ cs) x bad = by_test (eqb c x)
    (λ e. (0, omega arith, eqb-true c x e))
    (λ e.
    let (i, l, f) = number_place (suc n) cs x (λ z. bad (number_later n c cs x (eqb-false c x e) ∙ z)) in
    (suc i, omega arith, f))

code_again : (c : ℕ) (cs : List ℕ) → (our_code cs c ≡ 0 → ⊥) → SameCodes (c ∷ cs)
unfolding our_code
code_again c cs bad =
    let (i, l, f) = number_place 1 cs c bad in
    record { one = 0; other = suc i; after = omega arith; there = omega arith; same = sym f }

-- among the bytes after the first
later : {c : ℕ} {cs : List ℕ} → SameCodes cs ⊎ ZeroCode cs → SameCodes (c ∷ cs) ⊎ ZeroCode (c ∷ cs)
later (inl s) =
    let l : s.one < s.other = s.after in
    let k = s.there in
    inl (record { one = suc s.one; other = suc s.other; after = omega arith; there = omega arith; same = s.same })
later (inr z) = let l = z.there in inr (record { place = suc z.place; there = omega arith; is_zero = z.is_zero })

codes_fail : (codes : List ℕ) → codes_right codes ≡ false → SameCodes codes ⊎ ZeroCode codes
unfolding codes_right
codes_fail [] e = absurd (false≢true (sym e))
codes_fail (c ∷ cs) e = by_test (eqb c 0)
    (λ z. inr (record { place = 0; there = omega arith; is_zero = eqb-true c 0 z }))
    (λ z. by_test (eqb (our_code cs c) 0)
    (λ o. later (codes_fail cs (rw (codes_right, z, o) at e)))
    (λ o. inl (code_again c cs (eqb-false _ 0 o))))

-- ---- a test that passes

code_not_zero : (codes : List ℕ) → codes_right codes ≡ true → (i : ℕ) → i < length codes → get_or codes i 0 ≡ 0 → ⊥
code_not_zero [] r zero l z = absurd (omega arith)
code_not_zero [] r (suc i) l z = absurd (omega arith)
code_not_zero (c ∷ cs) r zero l z = (codes_first c cs r).not_zero z
code_not_zero (c ∷ cs) r (suc i) l z = code_not_zero cs (codes_first c cs r).others i (omega arith) z

codes_differ : (codes : List ℕ) → codes_right codes ≡ true → SameCodes codes → ⊥
codes_differ codes r s =
    let l : s.one < s.other = s.after in
    let k : s.other < length codes = s.there in
    let e : 1 + s.one ≡ 1 + s.other =
    sym (code_at codes s.one r (omega arith)) ∙ ap (our_code codes) s.same ∙ code_at codes s.other r k in
    omega arith

pub codes_wrong : (codes : List ℕ) → (codes_right codes ≡ false) ↔ (SameCodes codes ⊎ ZeroCode codes)
codes_wrong codes = (
  codes_fail codes,
  λ w.
      by_test (codes_right codes)
      (λ r. ⊎_elim (λ s. absurd (codes_differ codes r s)) (λ z. absurd (code_not_zero codes r z.place z.there z.is_zero)) w)
      (λ r. r),
)
