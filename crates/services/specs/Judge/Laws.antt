-- What judge answers, case by case.
-- Assumes nothing.
use Rattle.std.specs.Prelude.{◌≤◌, ◌<◌, true, ◌≡◌, refl, List, [], ◌++◌, map, length}
use Rattle.std.proofs.Common.{sym, ◌∙◌}
use Rattle.std.proofs.Math.Option.{none, some}
use Rattle.words.specs.Lists.{every}
use Rattle.automata.specs.Saturation.{Saturated, rounds_added}
use Rattle.files.specs.Bytes.{Test, first_hit, tests_on}
use Rattle.files.specs.Bytes.Laws.{numbered, first_hit_past, first_hit_stays, first_hit_tests_on, numbered_tests_on}
use Rattle.files.specs.Case.{case_refusal}
use Rattle.files.specs.Start.{Files, start_tests, start_refusal, starts_of}
use Rattle.services.specs.Saturate.{saturated}
use Rattle.services.specs.Judge.{JudgeInput, judge_lent, judge_files, mark, JudgeDone, judge_left}

pub start_numbered : numbered start_tests ≡ true
unfolding numbered start_tests every
start_numbered = refl

-- the start file's refusal comes before the tests that follow
pub start_first : {Y : Type 0} (part : Y → Files) (more : List (Test Y)) (y : Y) → (start_refusal (part y) ≡ 0 → ⊥)
    → first_hit (tests_on part start_tests ++ more) y ≡ start_refusal (part y)
unfolding start_refusal
start_first part more y h =
    first_hit_stays (tests_on part start_tests) more y (λ e. h (sym (first_hit_tests_on part start_tests y) ∙ e)) ∙ first_hit_tests_on part start_tests y

pub start_passed : {Y : Type 0} (part : Y → Files) (more : List (Test Y)) (y : Y) → start_refusal (part y) ≡ 0
    → first_hit (tests_on part start_tests ++ more) y ≡ first_hit more y
unfolding start_refusal
start_passed part more y h =
    first_hit_past (tests_on part start_tests) more y (numbered_tests_on part start_tests ∙ start_numbered) (first_hit_tests_on part start_tests y ∙ h)

-- ---- the cases

-- what judge answers to x
pub data JudgeCase (x : JudgeInput) : JudgeDone → Type 0 where
  case_refused : (case_refusal x.case ≡ 0 → ⊥) → JudgeCase x (judge_left x (case_refusal x.case) 0 [])
  start_refused : case_refusal x.case ≡ 0 → (start_refusal (judge_files x) ≡ 0 → ⊥) → JudgeCase x (judge_left x (start_refusal (judge_files x)) 0 [])
  answers_short : case_refusal x.case ≡ 0 → start_refusal (judge_files x) ≡ 0 → x.answers < length (starts_of x.start) → JudgeCase x (judge_left x 8 0 [])
  size_exceeded : case_refusal x.case ≡ 0 → start_refusal (judge_files x) ≡ 0 → length (starts_of x.start) ≤ x.answers → saturated (judge_lent x) x.rounds ≡ none
      → JudgeCase x (judge_left x 9 0 [])
  judged : (T : Saturated) → case_refusal x.case ≡ 0 → start_refusal (judge_files x) ≡ 0 → length (starts_of x.start) ≤ x.answers
      → saturated (judge_lent x) x.rounds ≡ some T → JudgeCase x (judge_left x 0 (rounds_added T) (map (mark x.case T x.start) (starts_of x.start)))
