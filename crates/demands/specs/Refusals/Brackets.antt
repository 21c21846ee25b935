-- The tests of brackets find the first number of its table that applies.
-- Assumes nothing.
use Rattle.std.specs.Prelude.{ℕ, ◌≤◌, length, ltb}
use Rattle.std.proofs.Math.Bool.{false≢true}
use Rattle.std.proofs.Math.Path.{refl}
use Rattle.std.proofs.Common.{sym, ◌∙◌, inl, inr}
use mathlib.Core.List.{List, [], ◌∷◌, ◌++◌}
use borrow.Author.Tests.{eqb-false, leb-true, le-leb, ltb-true, lt-ltb, ltb-false}
use Rattle.words.specs.Laws.Tests.{by_test}
use Rattle.files.specs.Bytes.{Test, first_hit, tests_on}
use Rattle.files.specs.Bytes.Laws.{first_hit_fails, first_hit_passes}
use Rattle.files.specs.Case.{case_tests}
use Rattle.files.specs.Start.{start_tests}
use Rattle.services.specs.Guide.{number_tests}
use Rattle.services.specs.Brackets.{BracketsInput, brackets_files, root_text, length_tests, brackets_refusal}
use Rattle.demands.specs.Refusals.{Refusal, refusal, Returned, StartMissing, TextLonger, case_refusals, start_refusals, brackets_early, brackets_refusals}
use Rattle.demands.specs.Refusals.Laws.{Agree, case_agrees, start_agrees, unlisted, unreturned, returned_after}

-- ---- tests and lines

module _ {X : Type 0} (x : X) where
  -- tests that agree with their lines, and then more
  agree_append : (ts us : List (Test X)) (rs more : List (Refusal X)) → Agree ts rs x → Agree us more x → Agree (ts ++ us) (rs ++ more) x
  unfolding Agree
  agree_append [] us [] more a b = b
  agree_append [] us (r ∷ rs) more a b = absurd a
  agree_append (t ∷ ts) us [] more a b = absurd a
  agree_append (t ∷ ts) us (r ∷ rs) more (e, f, k) b = (e, f, λ p. agree_append ts us rs more (k p) b)

  -- the first test that fails has the first number that applies
  agree_returned : (ts : List (Test X)) (rs : List (Refusal X)) → Agree ts rs x → Returned rs x (first_hit ts x)
  unfolding Agree Returned first_hit
  agree_returned [] [] a = refl
  agree_returned [] (r ∷ rs) a = absurd a
  agree_returned (t ∷ ts) [] a = absurd a
  agree_returned (t ∷ ts) (r ∷ rs) (e, (f, g), k) =
      by_test (t.fails x)
      (λ y. rw (first_hit_fails t ts x y) (inl (f y, e)))
      (λ y. rw (first_hit_passes t ts x y) (inr (λ a. false≢true (sym y ∙ g a), agree_returned ts rs (k y))))

  number_agrees : (start : X → List ℕ) (number : X → ℕ)
      → Agree (number_tests start number) (refusal 7 (λ y. StartMissing (start y) (number y)) ∷ []) x
  unfolding Agree number_tests
  number_agrees start number = (refl, (leb-true _ _, le-leb _ _), λ _. tt)

-- ---- brackets

module _ (x : BracketsInput) where
  length_agrees : Agree length_tests (refusal 13 TextLonger ∷ []) x
  unfolding Agree length_tests
  length_agrees = (refl, (ltb-true _ _, lt-ltb _ _), λ _. tt)

  pub brackets_returned : Returned brackets_refusals x (brackets_refusal x)
  unfolding brackets_refusal
  brackets_returned =
      agree_returned x _ brackets_refusals
      (agree_append x (tests_on (λ y. y.case) case_tests) _ (case_refusals (λ y. y.case)) _ (case_agrees x (λ y. y.case))
      (agree_append x (tests_on brackets_files start_tests) _ (start_refusals brackets_files) _ (start_agrees x brackets_files)
      (agree_append x (number_tests (λ y. y.start) (λ y. y.number)) _ _ _ (number_agrees x (λ y. y.start) (λ y. y.number)) length_agrees)))

  -- where no number applies, the text fits
  pub text_fits : Returned brackets_refusals x 0 → length (root_text x) ≤ x.text
  unfolding unlisted
  text_fits r =
      let (h, _) = unreturned (refusal 13 TextLonger) [] x (eqb-false 0 13 refl) (returned_after brackets_early (refusal 13 TextLonger ∷ []) x refl r) in
      by_test (ltb x.text (length (root_text x))) (λ l. absurd (h (ltb-true _ _ l))) (λ l. ltb-false _ _ l)
