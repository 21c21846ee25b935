-- Before the loop nothing is zeroed, each turn zeroes one word more, and after it all words are zero.
-- Assumes nothing.
use Rattle.std.specs.Prelude.{ℕ, zero, suc, ◌+◌, ◌≤◌, ◌<◌, ◌≡◌, refl, List, [], ◌∷◌, ◌++◌, length, set, drop, replicate}
use Rattle.std.proofs.Common.{ap, sym, ◌∙◌, append-nil, arith, length-set}
use Rattle.std.proofs.Math.Seq.{drop-length}
use Rattle.std.proofs.Math.Numerals.{add-one}
use Rattle.zeroing.specs.Zeroed.{Zeroed}

module _ {W : Type 0} (z : W) where
  one_more : (i : ℕ) (t : List W) → i < length t → set (replicate i z ++ drop i t) i z ≡ replicate (suc i) z ++ drop (suc i) t
  one_more i [] h = absurd (omega arith)
  one_more zero (x ∷ xs) h = refl
  one_more (suc i) (x ∷ xs) h = ap (λ (l : List W). z ∷ l) (one_more i xs (omega arith))

  pub zeroed_none : (t : List W) → Zeroed z t t 0
  zeroed_none t = record { words = refl; long = refl; within = omega arith }

  pub zeroed_more : (t₀ t : List W) (i : ℕ) (v : W) → v ≡ z → Zeroed z t₀ t i → i < length t → Zeroed z t₀ (set t i v) (i + 1)
  zeroed_more t₀ t i v q h l =
      let e : length t ≡ length t₀ = h.long in
      let k : i < length t₀ = omega arith in
      record {
        words = ap (λ (w : W). set t i w) q ∙ ap (λ (x : List W). set x i z) h.words ∙ one_more i t₀ k ∙ ap (λ (k : ℕ). replicate k z ++ drop k t₀) (sym (add-one i));
        long = length-set t i v ∙ e;
        within = omega arith;
      }

  pub zeroed_all : (t₀ t : List W) (i : ℕ) → Zeroed z t₀ t i → length t ≤ i → t ≡ replicate (length t₀) z
  zeroed_all t₀ t i h l =
      let e : length t ≡ length t₀ = h.long in
      let b : i ≤ length t₀ = h.within in
      let n : i ≡ length t₀ = omega arith in
      h.words
      ∙ ap (λ (k : ℕ). replicate k z ++ drop k t₀) n
      ∙ ap (λ (x : List W). replicate (length t₀) z ++ x) (drop-length t₀)
      ∙ append-nil (replicate (length t₀) z)
