-- What guide answers, case by case.
-- Assumes nothing.
use Rattle.std.specs.Prelude.{ℕ, ◌≤◌, ◌<◌, true, false, ◌≡◌, refl, List, [], ◌++◌, length, eqb}
use Rattle.std.proofs.Common.{ap, sym, ◌∙◌}
use Rattle.std.proofs.Math.Path.{subst}
use Rattle.std.proofs.Math.Option.{none, some}
use Rattle.std.proofs.Math.Dec.{leb}
use borrow.Author.Tests.{eqb-true, eqb-false, ne_eqb, le-leb, lt-leb, leb-true, leb-false}
use Rattle.words.specs.Laws.Tests.{by_test}
use Rattle.words.specs.Laws.Options.{by_option}
use Rattle.automata.specs.Saturation.{Saturated}
use Rattle.replies.specs.declared.Halt.TheVariants.{CellsShort}
use Rattle.walks.specs.Guide.{Report, walked_by, no_run, start_walk, guided}
use Rattle.files.specs.Bytes.{Test, first_hit, tests_on}
use Rattle.files.specs.Bytes.Laws.{first_hit_fails, first_hit_passes}
use Rattle.files.specs.Case.{case_refusal, rules_of}
use Rattle.files.specs.Start.{start_tests, start_refusal, starts_of, cells_of}
use Rattle.services.specs.Saturate.{saturated, size_tests}
use Rattle.services.proofs.Saturate.Laws.{size_refused, size_passed, case_first, case_passed}
use Rattle.services.specs.Judge.{more_to_add}
use Rattle.services.specs.Judge.Laws.{start_first, start_passed}
use Rattle.services.specs.Guide.{GuideInput, accepted, guide_lent, guide_files, number_tests, guide_refusal, cells_lent, start_named, guide_walk, open_start, guide_run}
use Rattle.services.specs.Guide.{GuideDone, guide_left, refused, guide_answer, guide_service}

-- ---- the cases

-- the files of x are sound and its start is in the file, and T is the table of its case after the rounds run
pub record Started (x : GuideInput) (T : Saturated) : Type 0 where
  pub sound_case : case_refusal x.case ≡ 0
  pub sound_start : start_refusal (guide_files x) ≡ 0
  pub start_there : x.number < length (starts_of x.start)
  pub table_is : saturated (guide_lent x) x.rounds ≡ some T

-- what guide answers to x
pub data GuideCase (x : GuideInput) : GuideDone → Type 0 where
  case_refused : (case_refusal x.case ≡ 0 → ⊥) → GuideCase x (guide_left x (refused (case_refusal x.case)))
  start_refused : case_refusal x.case ≡ 0 → (start_refusal (guide_files x) ≡ 0 → ⊥) → GuideCase x (guide_left x (refused (start_refusal (guide_files x))))
  start_missing : case_refusal x.case ≡ 0 → start_refusal (guide_files x) ≡ 0 → length (starts_of x.start) ≤ x.number
      → GuideCase x (guide_left x (refused 7))
  size_exceeded : case_refusal x.case ≡ 0 → start_refusal (guide_files x) ≡ 0 → x.number < length (starts_of x.start) → saturated (guide_lent x) x.rounds ≡ none
      → GuideCase x (guide_left x (refused 9))
  no_run_holds : (T : Saturated) → Started x T → accepted T.table x.start (start_named x) ≡ false → more_to_add x.case T ≡ false
      → GuideCase x (guide_left x no_run)
  is_open : (T : Saturated) → Started x T → accepted T.table x.start (start_named x) ≡ false → more_to_add x.case T ≡ true
      → GuideCase x (guide_left x open_start)
  cells_short : (T : Saturated) → Started x T → accepted T.table x.start (start_named x) ≡ true → cells_lent x < length (cells_of x.start)
      → GuideCase x (guide_left x (walked_by (CellsShort (record { steps = 0; cells = 0 })) []))
  walked : (T : Saturated) → Started x T → accepted T.table x.start (start_named x) ≡ true → length (cells_of x.start) ≤ cells_lent x
      → GuideCase x (guide_left x (guided (rules_of x.case) T (cells_lent x) x.trace []
      (start_walk T.table (cells_of x.start) (start_named x).control (start_named x).root)))

module _ (x : GuideInput) where
  answer_refused : (n : ℕ) → (n ≡ 0 → ⊥) → guide_answer x n ≡ guide_left x (refused n)
  unfolding guide_answer
  answer_refused n h = rw (guide_answer, ne_eqb n 0 h)

  answer_run : {T : Saturated} → saturated (guide_lent x) x.rounds ≡ some T → guide_answer x 0 ≡ guide_left x (guide_run x T)
  unfolding guide_answer
  answer_run e = rw (guide_answer, e)

  -- the answer where the tests give n
  answered : {n : ℕ} {d : GuideDone} → guide_refusal x ≡ n → guide_answer x n ≡ d → GuideCase x d → GuideCase x (guide_service x)
  unfolding guide_service
  answered e f c = subst (GuideCase x) (sym (ap (guide_answer x) e ∙ f)) c

  -- the tests after those of the files
  after_files : List (Test GuideInput)
  after_files = number_tests (λ y. y.start) (λ y. y.number) ++ size_tests guide_lent (λ y. y.rounds)

  case_tests_lem : (case_refusal x.case ≡ 0 → ⊥) → guide_refusal x ≡ case_refusal x.case
  unfolding guide_refusal
  case_tests_lem = case_first (λ (y : GuideInput). y.case) (tests_on guide_files start_tests ++ (number_tests (λ y. y.start) (λ y. y.number) ++ size_tests guide_lent (λ y. y.rounds))) x

  file_tests : case_refusal x.case ≡ 0 → guide_refusal x ≡ first_hit (tests_on guide_files start_tests ++ after_files) x
  unfolding guide_refusal after_files
  file_tests = case_passed (λ (y : GuideInput). y.case) (tests_on guide_files start_tests ++ (number_tests (λ y. y.start) (λ y. y.number) ++ size_tests guide_lent (λ y. y.rounds))) x

  missing_tests : length (starts_of x.start) ≤ x.number → first_hit after_files x ≡ 7
  unfolding after_files number_tests
  missing_tests h = first_hit_fails (record { fails = λ (y : GuideInput). leb (length (starts_of y.start)) y.number; refusal = 7 }) _ x (le-leb _ _ h)

  size_tests_lem : x.number < length (starts_of x.start) → first_hit after_files x ≡ first_hit (size_tests guide_lent (λ y. y.rounds)) x
  unfolding after_files number_tests
  size_tests_lem h =
      first_hit_passes (record { fails = λ (y : GuideInput). leb (length (starts_of y.start)) y.number; refusal = 7 }) _ x (lt-leb _ _ h)

  -- what the run gives for the table
  run_no : (T : Saturated) → accepted T.table x.start (start_named x) ≡ false → more_to_add x.case T ≡ false → guide_run x T ≡ no_run
  unfolding guide_run
  run_no T e m = rw (guide_run, e, m)

  run_open : (T : Saturated) → accepted T.table x.start (start_named x) ≡ false → more_to_add x.case T ≡ true → guide_run x T ≡ open_start
  unfolding guide_run
  run_open T e m = rw (guide_run, e, m)

  run_walk : (T : Saturated) → accepted T.table x.start (start_named x) ≡ true → guide_run x T ≡ guide_walk x T
  unfolding guide_run
  run_walk T e = rw (guide_run, e)

  pub walk_short : (T : Saturated) → cells_lent x < length (cells_of x.start) → guide_walk x T ≡ walked_by (CellsShort (record { steps = 0; cells = 0 })) []
  unfolding guide_walk
  walk_short T l = rw (guide_walk, lt-leb _ _ l)

  pub walk_goes : (T : Saturated) → length (cells_of x.start) ≤ cells_lent x
      → guide_walk x T ≡ guided (rules_of x.case) T (cells_lent x) x.trace []
      (start_walk T.table (cells_of x.start) (start_named x).control (start_named x).root)
  unfolding guide_walk
  walk_goes T l = rw (guide_walk, le-leb _ _ l)

  ran : (T : Saturated) → Started x T → GuideCase x (guide_left x (guide_run x T))
  ran T s =
      by_test (accepted T.table x.start (start_named x))
      (λ a.
      by_test (leb (length (cells_of x.start)) (cells_lent x))
      (λ l. let h = leb-true _ _ l in subst (λ (o : Report). GuideCase x (guide_left x o)) (sym (run_walk T a ∙ walk_goes T h)) (walked T s a h))
      (λ l. let h = leb-false _ _ l in subst (λ (o : Report). GuideCase x (guide_left x o)) (sym (run_walk T a ∙ walk_short T h)) (cells_short T s a h)))
      (λ a.
      by_test (more_to_add x.case T)
      (λ m. subst (λ (o : Report). GuideCase x (guide_left x o)) (sym (run_open T a m)) (is_open T s a m))
      (λ m. subst (λ (o : Report). GuideCase x (guide_left x o)) (sym (run_no T a m)) (no_run_holds T s a m)))

  sized : case_refusal x.case ≡ 0 → start_refusal (guide_files x) ≡ 0 → x.number < length (starts_of x.start) → GuideCase x (guide_service x)
  sized sound s h =
      let e : guide_refusal x ≡ first_hit (size_tests guide_lent (λ y. y.rounds)) x = file_tests sound ∙ start_passed guide_files after_files x s ∙ size_tests_lem h in
      by_option (saturated (guide_lent x) x.rounds)
      (λ o. answered (e ∙ size_refused guide_lent (λ y. y.rounds) x o) (answer_refused 9 (eqb-false 9 0 refl)) (size_exceeded sound s h o))
      (λ T o. answered (e ∙ size_passed guide_lent (λ y. y.rounds) x o) (answer_run o)
      (ran T (record { sound_case = sound; sound_start = s; start_there = h; table_is = o })))

  named : case_refusal x.case ≡ 0 → start_refusal (guide_files x) ≡ 0 → GuideCase x (guide_service x)
  named sound s =
      by_test (leb (length (starts_of x.start)) x.number)
      (λ h.
      let l = leb-true _ _ h in
      answered (file_tests sound ∙ start_passed guide_files after_files x s ∙ missing_tests l) (answer_refused 7 (eqb-false 7 0 refl)) (start_missing sound s l))
      (λ h. sized sound s (leb-false _ _ h))

  pub guide_cases : GuideCase x (guide_service x)
  guide_cases =
      by_test (eqb (case_refusal x.case) 0)
      (λ c.
      let sound = eqb-true _ 0 c in
      by_test (eqb (start_refusal (guide_files x)) 0)
      (λ s. named sound (eqb-true _ 0 s))
      (λ s.
      let bad = eqb-false _ 0 s in
      answered (file_tests sound ∙ start_first guide_files after_files x bad) (answer_refused _ bad) (start_refused sound bad)))
      (λ c. let bad = eqb-false _ 0 c in answered (case_tests_lem bad) (answer_refused _ bad) (case_refused bad))
