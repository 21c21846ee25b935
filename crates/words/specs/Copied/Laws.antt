-- A copy word by word, from none to all.
-- Assumes nothing.
use Rattle.std.specs.Prelude.{ℕ, ◌+◌, ◌≤◌, ◌<◌, ◌≡◌, refl, List, ◌++◌, length, get_or, take, drop, set}
use Rattle.std.proofs.Common.{ap, sym, ◌∙◌, subst, zero-add, add-one, arith, length-set}
use Rattle.std.proofs.Math.Seq.{paste, paste-zero, paste-suc, take-length}
use Rattle.std.proofs.lemmas.List.Edits.{sets, sets-eq}
use Rattle.words.specs.Copied.{Copied}

pub copied_none : (t : List ℕ) (at : ℕ) (s : List ℕ) → Copied t at s 0 t
copied_none t at s = record { within = omega arith; is = paste-zero t at s; long = refl }

pub copied_more : {t₀ t s : List ℕ} {at i : ℕ} → Copied t₀ at s i t → at + i < length t₀ → i < length s
    → Copied t₀ at s (i + 1) (set t (at + i) (get_or s i 0))
copied_more {t₀} {t} {s} {at} {i} h l l' =
    record {
      within = omega arith;
      is = ap (λ (r : List ℕ). set r (at + i) (get_or s i 0)) h.is ∙ paste-suc t₀ at s i 0 l l' ∙ ap (paste t₀ at s) (sym (add-one i));
      long = length-set t (at + i) (get_or s i 0) ∙ h.long;
    }

-- where the copy begins with the first word
pub copied_next : {t₀ t s : List ℕ} {i : ℕ} → Copied t₀ 0 s i t → i < length t₀ → i < length s → Copied t₀ 0 s (i + 1) (set t i (get_or s i 0))
copied_next {t₀} {t} {s} {i} h l k =
    subst (λ (j : ℕ). Copied t₀ 0 s (i + 1) (set t j (get_or s i 0))) (zero-add i) (copied_more h (subst (λ (j : ℕ). j < length t₀) (sym (zero-add i)) l) k)

pub copied_all : {t₀ t s : List ℕ} {at i : ℕ} → Copied t₀ at s i t → length s ≤ i → t ≡ paste t₀ at s (length s)
copied_all {t₀} {t} {s} {at} {i} h l =
    let z : i ≡ length s = omega (arith, h.within) in
    h.is ∙ ap (paste t₀ at s) z

-- all of s is written where there is room for it
pub copied_sets : {t₀ t s : List ℕ} {at i : ℕ} → Copied t₀ at s i t → length s ≤ i → at + length s ≤ length t₀ → t ≡ sets t₀ at s
copied_sets {t₀} {t} {s} {at} {i} h l fits =
    copied_all h l
    ∙ ap (λ (r : List ℕ). take at t₀ ++ r ++ drop (at + length s) t₀) (take-length s)
    ∙ sym (sets-eq s t₀ at fits)
