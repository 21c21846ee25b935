-- What saturate answers, case by case.
-- Assumes nothing.
use Rattle.std.specs.Prelude.{ℕ, true, false, ◌≡◌, refl, eqb}
use Rattle.std.proofs.Common.{ap, sym, ◌∙◌, subst, eqb-true, ne_eqb}
use Rattle.std.proofs.Math.Option.{none, some}
use mathlib.Core.List.{List, [], ◌++◌}
use Rattle.std.proofs.lemmas.Bool.{eqb-false}
use Rattle.words.specs.Lists.{every}
use Rattle.words.specs.Laws.Tests.{by_test}
use Rattle.words.specs.Laws.Options.{by_option}
use Rattle.automata.specs.Saturation.{Saturated, all_rounds}
use Rattle.files.specs.Bytes.{Test, first_hit, tests_on}
use Rattle.files.specs.Bytes.Laws.{numbered, first_hit_past, first_hit_stays, first_hit_tests_on, numbered_tests_on, first_hit_fails, first_hit_passes}
use Rattle.files.specs.Case.{case_tests, case_refusal}
use Rattle.services.specs.Saturate.{Lent, saturated, too_large, size_tests, saturate_refusal, SaturateDone, saturate_refused, saturate_filled, saturate_answer, saturate_service}

-- the size test fails exactly where there is no table of these rounds
pub too_large_none : (x : Lent) (n : ℕ) → saturated x n ≡ none → too_large x n ≡ true
unfolding too_large
too_large_none x n e = rw (too_large, e)

pub too_large_some : (x : Lent) (n : ℕ) {T : Saturated} → saturated x n ≡ some T → too_large x n ≡ false
unfolding too_large
too_large_some x n e = rw (too_large, e)

module _ {X : Type 0} (part : X → Lent) (rounds : X → ℕ) (x : X) where
  pub size_refused : saturated (part x) (rounds x) ≡ none → first_hit (size_tests part rounds) x ≡ 9
  unfolding size_tests
  size_refused e = first_hit_fails (record { fails = λ y. too_large (part y) (rounds y); refusal = 9 }) [] x (too_large_none (part x) (rounds x) e)

  pub size_passed : {T : Saturated} → saturated (part x) (rounds x) ≡ some T → first_hit (size_tests part rounds) x ≡ 0
  unfolding size_tests first_hit
  size_passed e = first_hit_passes (record { fails = λ y. too_large (part y) (rounds y); refusal = 9 }) [] x (too_large_some (part x) (rounds x) e)

pub case_numbered : numbered case_tests ≡ true
unfolding numbered case_tests every
case_numbered = refl

-- the case's refusal comes first
pub case_first : {Y : Type 0} (part : Y → List ℕ) (more : List (Test Y)) (y : Y) → (case_refusal (part y) ≡ 0 → ⊥)
    → first_hit (tests_on part case_tests ++ more) y ≡ case_refusal (part y)
unfolding case_refusal
case_first part more y h =
    first_hit_stays (tests_on part case_tests) more y (λ e. h (sym (first_hit_tests_on part case_tests y) ∙ e)) ∙ first_hit_tests_on part case_tests y

-- a sound case leaves the tests that follow
pub case_passed : {Y : Type 0} (part : Y → List ℕ) (more : List (Test Y)) (y : Y) → case_refusal (part y) ≡ 0
    → first_hit (tests_on part case_tests ++ more) y ≡ first_hit more y
unfolding case_refusal
case_passed part more y h =
    first_hit_past (tests_on part case_tests) more y (numbered_tests_on part case_tests ∙ case_numbered) (first_hit_tests_on part case_tests y ∙ h)

-- ---- the cases

-- what saturate answers to x
pub data SaturateCase (x : Lent) : SaturateDone → Type 0 where
  case_refused : (case_refusal x.case ≡ 0 → ⊥) → SaturateCase x (saturate_refused x (case_refusal x.case))
  size_exceeded : case_refusal x.case ≡ 0 → saturated x all_rounds ≡ none → SaturateCase x (saturate_refused x 9)
  filled : (T : Saturated) → case_refusal x.case ≡ 0 → saturated x all_rounds ≡ some T → SaturateCase x (saturate_filled x T)

answer_refused : (x : Lent) (n : ℕ) → (n ≡ 0 → ⊥) → saturate_answer x n ≡ saturate_refused x n
unfolding saturate_answer
answer_refused x n h = rw (saturate_answer, ne_eqb n 0 h)

answer_filled : (x : Lent) {T : Saturated} → saturated x all_rounds ≡ some T → saturate_answer x 0 ≡ saturate_filled x T
unfolding saturate_answer
answer_filled x e = rw (saturate_answer, e)

pub saturate_cases : (x : Lent) → SaturateCase x (saturate_service x)
unfolding saturate_service saturate_refusal
saturate_cases x =
    by_test (eqb (case_refusal x.case) 0)
    (λ e.
    let sound = eqb-true _ 0 e in
    let tests : List (Test Lent) = size_tests (λ (y : Lent). y) (λ (y : Lent). all_rounds) in
    let passed : saturate_refusal x ≡ first_hit tests x = case_passed (λ (y : Lent). y.case) tests x sound in
    by_option (saturated x all_rounds)
    (λ h. subst (SaturateCase x) (sym (ap (saturate_answer x) (passed ∙ size_refused (λ y. y) (λ y. all_rounds) x h) ∙ answer_refused x 9 (eqb-false 9 0 refl))) (size_exceeded sound h))
    (λ T h. subst (SaturateCase x) (sym (ap (saturate_answer x) (passed ∙ size_passed (λ y. y) (λ y. all_rounds) x h) ∙ answer_filled x h)) (filled T sound h)))
    (λ e.
    let bad = eqb-false _ 0 e in
    subst (SaturateCase x) (sym (ap (saturate_answer x) (case_first (λ (y : Lent). y.case) (size_tests (λ (y : Lent). y) (λ (y : Lent). all_rounds)) x bad) ∙ answer_refused x _ bad)) (case_refused bad))
