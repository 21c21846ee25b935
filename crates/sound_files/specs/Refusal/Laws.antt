-- The refusal by the two files and the number of starts, test by test.
-- Assumes nothing.
use Rattle.std.specs.Prelude.{ℕ, ◌≤◌, ◌<◌, ◌≡◌, refl, List, ◌++◌, length, eqb, ltb}
use Rattle.std.proofs.Common.{ap, sym, ◌∙◌, arith}
use Rattle.std.proofs.Math.Dec.{leb}
use borrow.Author.Tests.{eq-eqb, ne_eqb, eqb-true, eqb-false, lt-ltb, le-ltb, ltb-true, ltb-false, le-leb, lt-leb}
use Rattle.words.specs.Laws.Tests.{by_test}
use Rattle.replies.specs.declared.Refusal.{Refusal}
use Rattle.replies.specs.Numbers.{number_for}
use Rattle.replies.specs.Numbers.Laws.{numbered}
use Rattle.files.specs.Bytes.{count_of, Test, first_hit, tests_on}
use Rattle.files.specs.Bytes.Laws.{first_hit_fails, first_hit_passes}
use Rattle.files.specs.Case.{Head, case_tests, case_refusal, head}
use Rattle.files.specs.Start.{Files, start_tests, start_refusal, starts_of}
use Rattle.services.proofs.Saturate.Laws.{case_first, case_passed}
use Rattle.services.specs.Judge.Laws.{start_first, start_passed}
use Rattle.services.specs.Guide.{number_tests}
use Rattle.start_file.specs.Checks.{files_of, refusal_for}
use Rattle.start_file.specs.Checks.Laws.{refusal_is}
use Rattle.sound_files.specs.Refusal.{first_of, files_refusal, FilesSound, starts_refusal, refused_before, number_refusal}
use Rattle.sound_files.specs.Sound.Laws.{starts_count}

-- ---- one refusal after another

pub first_stays : (n m : ℕ) → (n ≡ 0 → ⊥) → first_of n m ≡ n
unfolding first_of
first_stays n m h = rw (first_of, ne_eqb n 0 h)

pub first_passes : (n m : ℕ) → n ≡ 0 → first_of n m ≡ m
unfolding first_of
first_passes n m e = rw (first_of, eq-eqb n 0 e)

first_none : (n m : ℕ) → first_of n m ≡ 0 → (n ≡ 0) × (m ≡ 0)
first_none n m z =
    by_test (eqb n 0)
    (λ t. let e = eqb-true n 0 t in (e, sym (first_passes n m e) ∙ z))
    (λ t. let h = eqb-false n 0 t in absurd (h (sym (first_stays n m h) ∙ z)))

-- ---- the two files

module _ (case start : List ℕ) where
  files_case : (case_refusal case ≡ 0 → ⊥) → files_refusal case start ≡ case_refusal case
  unfolding files_refusal
  files_case = first_stays (case_refusal case) (start_refusal (files_of case start))

  files_start : case_refusal case ≡ 0 → files_refusal case start ≡ start_refusal (files_of case start)
  unfolding files_refusal
  files_start = first_passes (case_refusal case) (start_refusal (files_of case start))

  files_passed : FilesSound case start → files_refusal case start ≡ 0
  files_passed s = files_start s.sound_case ∙ s.sound_start

  pub files_sound : files_refusal case start ≡ 0 → FilesSound case start
  unfolding files_refusal
  files_sound z =
      let r = first_none (case_refusal case) (start_refusal (files_of case start)) z in
      record { sound_case = r.0; sound_start = r.1 }

  -- as the code comes to them
  module _ {c : ℕ} (is : c ≡ case_refusal case) where
    pub by_case : (c ≡ 0 → ⊥) → c ≡ files_refusal case start
    by_case h = is ∙ sym (files_case (λ z. h (is ∙ z)))

    pub by_start : c ≡ 0 → {h : Head} → h ≡ head case → {s : ℕ} → s ≡ refusal_for h.P h.A start → s ≡ files_refusal case start
    by_start e g f = f ∙ refusal_is case start g ∙ sym (files_start (sym is ∙ e))

-- a refusal of the case is that of the files
pub case_refused : (case start : List ℕ) (r : Refusal) → number_for r ≡ case_refusal case → number_for r ≡ files_refusal case start
case_refused case start r is = by_case case start is (numbered r)

-- ---- the number of starts

module _ (start : List ℕ) (k below past : ℕ) where
  starts_below : k < length (starts_of start) → starts_refusal start k below past ≡ below
  unfolding starts_refusal
  starts_below h = rw (starts_refusal, lt-ltb k (length (starts_of start)) h)

  starts_past : length (starts_of start) ≤ k → starts_refusal start k below past ≡ past
  unfolding starts_refusal
  starts_past h = rw (starts_refusal, le-ltb k (length (starts_of start)) h)

-- ---- one after the other

module _ (case start : List ℕ) (k below past : ℕ) where
  pub before_files : (files_refusal case start ≡ 0 → ⊥) → refused_before case start k below past ≡ files_refusal case start
  unfolding refused_before
  before_files = first_stays (files_refusal case start) (starts_refusal start k below past)

  before_starts : files_refusal case start ≡ 0 → refused_before case start k below past ≡ starts_refusal start k below past
  unfolding refused_before
  before_starts = first_passes (files_refusal case start) (starts_refusal start k below past)

  pub before_case : (case_refusal case ≡ 0 → ⊥) → refused_before case start k below past ≡ case_refusal case
  before_case h = let e = files_case case start h in before_files (λ z. h (sym e ∙ z)) ∙ e

  pub before_start : case_refusal case ≡ 0 → (start_refusal (files_of case start) ≡ 0 → ⊥)
      → refused_before case start k below past ≡ start_refusal (files_of case start)
  before_start c h = let e = files_start case start c in before_files (λ z. h (sym e ∙ z)) ∙ e

  pub before_below : FilesSound case start → k < length (starts_of start) → refused_before case start k below past ≡ below
  before_below s h = before_starts (files_passed case start s) ∙ starts_below start k below past h

  pub before_past : FilesSound case start → length (starts_of start) ≤ k → refused_before case start k below past ≡ past
  before_past s h = before_starts (files_passed case start s) ∙ starts_past start k below past h

  -- as the code comes to them, with the number of starts that the file gives
  module _ {f : ℕ} (is : f ≡ files_refusal case start) where
    pub by_files : (f ≡ 0 → ⊥) → f ≡ refused_before case start k below past
    by_files h = is ∙ sym (before_files (λ z. h (is ∙ z)))

    module _ (none : f ≡ 0) {n : ℕ} (count : n ≡ count_of start 0) where
      pub by_below : k < n → below ≡ refused_before case start k below past
      by_below l =
          let e : length (starts_of start) ≡ count_of start 0 = starts_count start in
          sym (before_below (files_sound case start (sym is ∙ none)) (omega arith))

      pub by_past : n ≤ k → past ≡ refused_before case start k below past
      by_past l =
          let e : length (starts_of start) ≡ count_of start 0 = starts_count start in
          sym (before_past (files_sound case start (sym is ∙ none)) (omega arith))

  -- where there is no refusal
  module _ (none : refused_before case start k below past ≡ 0) where
    pub sound_before : FilesSound case start
    unfolding refused_before
    sound_before = files_sound case start (first_none (files_refusal case start) (starts_refusal start k below past) none).0

    pub not_below : (below ≡ 0 → ⊥) → length (starts_of start) ≤ k
    not_below h =
        by_test (ltb k (length (starts_of start))) (λ t. absurd (h (sym (before_below sound_before (ltb-true _ _ t)) ∙ none))) (λ t. ltb-false _ _ t)

    pub not_past : (past ≡ 0 → ⊥) → k < length (starts_of start)
    not_past h =
        by_test (ltb k (length (starts_of start))) (λ t. ltb-true _ _ t) (λ t. absurd (h (sym (before_past sound_before (ltb-false _ _ t)) ∙ none)))

-- ---- the tests of a service

-- tests of the case, of the start file and of the number of a start, then more
module _ {X : Type 0} (case start : X → List ℕ) (number : X → ℕ) (more : List (Test X)) (x : X) where
  abbrev files : X → Files
  files y = files_of (case y) (start y)

  number_past : length (starts_of (start x)) ≤ number x → first_hit (number_tests start number ++ more) x ≡ 7
  unfolding number_tests
  number_past h = first_hit_fails (record { fails = λ (y : X). leb (length (starts_of (start y))) (number y); refusal = 7 }) more x (le-leb _ _ h)

  number_there : number x < length (starts_of (start x)) → first_hit (number_tests start number ++ more) x ≡ first_hit more x
  unfolding number_tests
  number_there h = first_hit_passes (record { fails = λ (y : X). leb (length (starts_of (start y))) (number y); refusal = 7 }) more x (lt-leb _ _ h)

  pub tests_first : first_hit (tests_on case case_tests ++ (tests_on files start_tests ++ (number_tests start number ++ more))) x
      ≡ first_of (number_refusal (case x) (start x) (number x)) (first_hit more x)
  tests_first =
      let later = first_hit more x in
      by_test (eqb (case_refusal (case x)) 0)
      (λ c.
      let sound = eqb-true _ 0 c in
      case_passed case _ x sound
      ∙ by_test (eqb (start_refusal (files x)) 0)
      (λ s.
      let both : FilesSound (case x) (start x) = record { sound_case = sound; sound_start = eqb-true _ 0 s } in
      start_passed files _ x (eqb-true _ 0 s)
      ∙ by_test (ltb (number x) (length (starts_of (start x))))
      (λ t.
      let e = before_below (case x) (start x) (number x) 0 7 both (ltb-true _ _ t) in
      number_there (ltb-true _ _ t) ∙ sym (first_passes _ later e))
      (λ t.
      let e = before_past (case x) (start x) (number x) 0 7 both (ltb-false _ _ t) in
      number_past (ltb-false _ _ t) ∙ sym (ap (λ (n : ℕ). first_of n later) e ∙ first_stays 7 later (eqb-false 7 0 refl))))
      (λ s.
      let no = eqb-false _ 0 s in
      let e = before_start (case x) (start x) (number x) 0 7 sound no in
      start_first files _ x no ∙ sym (ap (λ (n : ℕ). first_of n later) e ∙ first_stays _ later no)))
      (λ c.
      let no = eqb-false _ 0 c in
      let e = before_case (case x) (start x) (number x) 0 7 no in
      case_first case _ x no ∙ sym (ap (λ (n : ℕ). first_of n later) e ∙ first_stays _ later no))
