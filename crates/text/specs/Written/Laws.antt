-- One text after another, and what a text keeps.
-- Assumes nothing.
use Rattle.std.specs.Prelude.{ℕ, suc, ◌+◌, ◌-◌, ◌≤◌, ◌≡◌, refl, List, [], ◌∷◌, ◌++◌, length, take, drop, set}
use Rattle.std.proofs.Common.{ap, sym, ◌∙◌, add-zero, add_assoc, append_assoc, arith, length-append}
use Rattle.std.proofs.lemmas.List.{drop-drop}
use Rattle.std.proofs.lemmas.List.Edits.{sets, sets-eq}
use Rattle.std.proofs.Math.Seq.{length-sets}
use Rattle.text.specs.Written.{Written}

-- ---- one text after another

pub sets_append : (a b l : List ℕ) (at : ℕ) → sets (sets l at a) (at + length a) b ≡ sets l at (a ++ b)
sets_append [] b l at = ap (λ (k : ℕ). sets l k b) (add-zero at)
sets_append (x ∷ a) b l at =
    let z : at + suc (length a) ≡ suc at + length a = omega arith in
    ap (λ (k : ℕ). sets (sets (set l at x) (suc at) a) k b) z ∙ sets_append a b (set l at x) (suc at)

module _ {before a middle : List ℕ} {at between : ℕ} (first : Written before at a middle between) where
  pub written_then : {b after : List ℕ} {end : ℕ} → Written middle between b after end → Written before at (a ++ b) after end
  written_then {b} {after} {end} second =
      record {
        place = second.place ∙ ap (λ (k : ℕ). k + length b) first.place
            ∙ add_assoc at (length a) (length b) ∙ ap (λ (k : ℕ). at + k) (sym (length-append a b));
        is = second.is ∙ ap (λ (l : List ℕ). sets l between b) first.is
            ∙ ap (λ (k : ℕ). sets (sets before at a) k b) first.place ∙ sets_append a b before at;
      }

  -- ---- what is kept

  pub written_length : length middle ≡ length before
  written_length = ap length first.is ∙ length-sets before at a

-- a text that is the same
pub written_same : {before a b after : List ℕ} {at end : ℕ} → a ≡ b → Written before at a after end → Written before at b after end
written_same {before} {a} {b} {after} {at} {end} e h =
    record { place = h.place ∙ ap (λ (l : List ℕ). at + length l) e; is = h.is ∙ ap (sets before at) e }

-- a text that was copied into a part of the bytes
pub written_part : {s part : List ℕ} (l : List ℕ) (at : ℕ) → at + length s ≤ length l → part ≡ s
    → Written l at s (take at l ++ (part ++ drop (at + length s - at) (drop at l))) (at + length s)
written_part {s} {part} l at fits same =
    let n : ℕ = at + length s - at in
    let z : at + n ≡ at + length s = omega arith in
    record {
      place = refl;
      is = ap (λ (p : List ℕ). take at l ++ (p ++ drop n (drop at l))) same
          ∙ ap (λ (r : List ℕ). take at l ++ (s ++ r)) (drop-drop n at l ∙ ap (λ (k : ℕ). drop k l) z)
          ∙ sym (append_assoc (take at l) s (drop (at + length s) l))
          ∙ sym (sets-eq s l at fits);
    }
