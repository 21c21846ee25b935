-- The codes of a record, one after another.
-- Assumes nothing.
use Rattle.std.specs.Prelude.{ℕ, suc, ◌+◌, ◌≤◌, Bool, true, false, not, ◌&&◌, ◌≡◌, refl, length, eqb, Option, Some, None, unwrap_or, option_map}
use Rattle.std.specs.List.{position_from, list_any}
use Rattle.std.proofs.Math.Bool.{and-false}
use Rattle.words.specs.Laws.Tests.{by_test}
use Rattle.words.specs.Lists.Laws.{length_zero}
use Rattle.std.proofs.Math.Path.{ap, sym}
use Rattle.std.proofs.Common.{◌∙◌, add-one, arith, drop_of_length-le}
use mathlib.Core.List.{List, [], ◌∷◌}
use Rattle.std.proofs.Math.ListN.{drop}
use Rattle.std.proofs.lemmas.List.Edits.{sets-eq}
use borrow.Author.Tests.{eq-eqb, ne_eqb}
use Rattle.words.specs.Copied.{Copied}
use Rattle.words.specs.Copied.Laws.{copied_sets}
use Rattle.files.specs.Codes.{our_codes, number_from, our_code, codes_right}

-- ---- our code for a tool's code

module _ (x : ℕ) where
  number_at : (n : ℕ) (codes : List ℕ) → unwrap_or (option_map suc (position_from (λ c. eqb c x) n codes)) 0 ≡ number_from (suc n) codes x
  unfolding number_from
  number_at n [] = refl
  number_at n (c ∷ cs) = by_test (eqb c x)
      (λ e. rw (number_from, e))
      (λ e. rw (number_from, e, add-one) (number_at (suc n) cs))

  pub found_at : (codes : List ℕ) {r : Option ℕ} {i : ℕ} → r ≡ position_from (λ c. eqb c x) 0 codes → r ≡ Some i → i + 1 ≡ our_code codes x
  unfolding our_code
  found_at codes {i = i} p e =
      add-one i ∙ ap (λ (o : Option ℕ). unwrap_or (option_map suc o) 0) (sym e ∙ p) ∙ number_at 0 codes

  pub found_none : (codes : List ℕ) {r : Option ℕ} → r ≡ position_from (λ c. eqb c x) 0 codes → r ≡ None → 0 ≡ our_code codes x
  unfolding our_code
  found_none codes p e = ap (λ (o : Option ℕ). unwrap_or (option_map suc o) 0) (sym e ∙ p) ∙ number_at 0 codes

  -- ---- a right record

  none_after : (n : ℕ) (codes : List ℕ) → eqb (number_from (suc n) codes x) 0 ≡ not (list_any (λ y. eqb y x) codes)
  unfolding number_from
  none_after n [] = refl
  none_after n (c ∷ cs) = by_test (eqb c x)
      (λ e. rw (number_from, e, ne_eqb (suc n) 0 (λ z. omega arith)))
      (λ e. rw (number_from, e) (none_after (suc n) cs))

-- one code and those after it
codes_cons : (c : ℕ) (cs : List ℕ) → codes_right (c ∷ cs) ≡ not (eqb c 0) && not (list_any (λ y. eqb y c) cs) && codes_right cs
unfolding codes_right our_code
codes_cons c cs = rw (codes_right, none_after c 0 cs)

-- the codes are right if those that are left are
module _ (codes rest : List ℕ) (p : codes_right codes ≡ codes_right rest) where
  pub right_all : length rest ≡ 0 → true ≡ codes_right codes
  unfolding codes_right
  right_all e = sym (p ∙ ap codes_right (length_zero rest e))

  module _ {c : ℕ} {after : List ℕ} (e : rest ≡ c ∷ after) where
    pub right_zero : c ≡ 0 → false ≡ codes_right codes
    right_zero z = sym (p ∙ ap codes_right e ∙ codes_cons c after ∙ rw (eq-eqb c 0 z))

    module _ {r : Bool} (f : r ≡ list_any (λ y. eqb y c) after) where
      pub right_again : r ≡ true → false ≡ codes_right codes
      right_again t = sym (p ∙ ap codes_right e ∙ codes_cons c after ∙ rw (← f, t) (ap (λ (b : Bool). b && codes_right after) (and-false (not (eqb c 0)))))

      pub right_more : (c ≡ 0 → ⊥) → r ≡ false → codes_right codes ≡ codes_right after
      right_more some t = p ∙ ap codes_right e ∙ codes_cons c after ∙ rw (ne_eqb c 0 some, ← f, t)

-- ---- our codes

-- eight bytes that have been copied are all there is
pub copied_ours : {t₀ t : List ℕ} {i : ℕ} → Copied t₀ 0 our_codes i t → 8 ≤ i → length t₀ ≡ 8 → t ≡ our_codes
unfolding our_codes
copied_ours {t₀} {t} {i} h l e =
    let fits : 0 + 8 ≤ length t₀ = omega arith in
    let none : drop (0 + 8) t₀ ≡ [] = drop_of_length-le t₀ {i = 8} (omega arith) in
    copied_sets h l fits ∙ sets-eq our_codes t₀ 0 fits ∙ ap (λ (r : List ℕ). 1 ∷ 2 ∷ 3 ∷ 4 ∷ 5 ∷ 6 ∷ 7 ∷ 8 ∷ r) none
