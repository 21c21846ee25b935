-- What judge answers, case by case: the proof.
-- Assumes nothing.
use Rattle.std.specs.Prelude.{ℕ, ◌≤◌, ◌<◌, ◌≡◌, refl, List, [], ◌++◌, map, length, eqb}
use Rattle.std.proofs.Common.{ap, sym, ◌∙◌}
use Rattle.std.proofs.Math.Path.{subst}
use Rattle.std.proofs.Math.Option.{some}
use Rattle.std.proofs.Math.Dec.{ltb}
use borrow.Author.Tests.{eqb-true, eqb-false, ne_eqb, lt-ltb, le-ltb, ltb-true, ltb-false}
use Rattle.words.specs.Laws.Tests.{by_test}
use Rattle.words.specs.Laws.Options.{by_option}
use Rattle.automata.specs.Saturation.{Saturated, rounds_added}
use Rattle.files.specs.Bytes.{Test, first_hit, tests_on}
use Rattle.files.specs.Bytes.Laws.{first_hit_fails, first_hit_passes}
use Rattle.files.specs.Case.{case_refusal}
use Rattle.files.specs.Start.{start_tests, start_refusal, starts_of}
use Rattle.services.specs.Saturate.{saturated, size_tests}
use Rattle.services.proofs.Saturate.Laws.{size_refused, size_passed, case_first, case_passed}
use Rattle.services.specs.Judge.{JudgeInput, judge_lent, judge_files, answer_tests, judge_refusal, mark, JudgeDone, judge_left, judge_answer, judge_service}
use Rattle.services.specs.Judge.Laws.{start_first, start_passed, JudgeCase, case_refused, start_refused, answers_short, size_exceeded, judged}

module _ (x : JudgeInput) where
  answer_refused : (n : ℕ) → (n ≡ 0 → ⊥) → judge_answer x n ≡ judge_left x n 0 []
  unfolding judge_answer
  answer_refused n h = rw (judge_answer, ne_eqb n 0 h)

  answer_judged : {T : Saturated} → saturated (judge_lent x) x.rounds ≡ some T
      → judge_answer x 0 ≡ judge_left x 0 (rounds_added T) (map (mark x.case T x.start) (starts_of x.start))
  unfolding judge_answer
  answer_judged e = rw (judge_answer, e)

  -- the answer where the tests give n
  answered : {n : ℕ} {d : JudgeDone} → judge_refusal x ≡ n → judge_answer x n ≡ d → JudgeCase x d → JudgeCase x (judge_service x)
  unfolding judge_service
  answered e f c = subst (JudgeCase x) (sym (ap (judge_answer x) e ∙ f)) c

  -- the tests after those of the files
  after_files : List (Test JudgeInput)
  after_files = answer_tests ++ size_tests judge_lent (λ y. y.rounds)

  case_tests_lem : (case_refusal x.case ≡ 0 → ⊥) → judge_refusal x ≡ case_refusal x.case
  unfolding judge_refusal
  case_tests_lem = case_first (λ (y : JudgeInput). y.case) (tests_on judge_files start_tests ++ (answer_tests ++ size_tests judge_lent (λ y. y.rounds))) x

  file_tests : case_refusal x.case ≡ 0 → judge_refusal x ≡ first_hit (tests_on judge_files start_tests ++ after_files) x
  unfolding judge_refusal after_files
  file_tests = case_passed (λ (y : JudgeInput). y.case) (tests_on judge_files start_tests ++ (answer_tests ++ size_tests judge_lent (λ y. y.rounds))) x

  short_tests : x.answers < length (starts_of x.start) → first_hit after_files x ≡ 8
  unfolding after_files answer_tests
  short_tests h = first_hit_fails (record { fails = λ (y : JudgeInput). ltb y.answers (length (starts_of y.start)); refusal = 8 }) _ x (lt-ltb _ _ h)

  size_tests_lem : length (starts_of x.start) ≤ x.answers → first_hit after_files x ≡ first_hit (size_tests judge_lent (λ y. y.rounds)) x
  unfolding after_files answer_tests
  size_tests_lem h =
      first_hit_passes (record { fails = λ (y : JudgeInput). ltb y.answers (length (starts_of y.start)); refusal = 8 }) _ x (le-ltb _ _ h)

  sized : case_refusal x.case ≡ 0 → start_refusal (judge_files x) ≡ 0 → length (starts_of x.start) ≤ x.answers → JudgeCase x (judge_service x)
  sized sound s h =
      let e : judge_refusal x ≡ first_hit (size_tests judge_lent (λ y. y.rounds)) x = file_tests sound ∙ start_passed judge_files after_files x s ∙ size_tests_lem h in
      by_option (saturated (judge_lent x) x.rounds)
      (λ o. answered (e ∙ size_refused judge_lent (λ y. y.rounds) x o) (answer_refused 9 (eqb-false 9 0 refl)) (size_exceeded sound s h o))
      (λ T o. answered (e ∙ size_passed judge_lent (λ y. y.rounds) x o) (answer_judged o) (judged T sound s h o))

  started : case_refusal x.case ≡ 0 → start_refusal (judge_files x) ≡ 0 → JudgeCase x (judge_service x)
  started sound s =
      by_test (ltb x.answers (length (starts_of x.start)))
      (λ h.
      let l = ltb-true _ _ h in
      answered (file_tests sound ∙ start_passed judge_files after_files x s ∙ short_tests l) (answer_refused 8 (eqb-false 8 0 refl)) (answers_short sound s l))
      (λ h. sized sound s (ltb-false _ _ h))

  pub judge_cases : JudgeCase x (judge_service x)
  judge_cases =
      by_test (eqb (case_refusal x.case) 0)
      (λ c.
      let sound = eqb-true _ 0 c in
      by_test (eqb (start_refusal (judge_files x)) 0)
      (λ s. started sound (eqb-true _ 0 s))
      (λ s.
      let bad = eqb-false _ 0 s in
      answered (file_tests sound ∙ start_first judge_files after_files x bad) (answer_refused (start_refusal (judge_files x)) bad) (start_refused sound bad)))
      (λ c. let bad = eqb-false _ 0 c in answered (case_tests_lem bad) (answer_refused _ bad) (case_refused bad))
