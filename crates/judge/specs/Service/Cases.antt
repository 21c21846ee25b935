-- What judge answers, in the order in which the code comes to it: refused by the files or the answers lent, refused for size, or judged.
-- Assumes nothing.
use Rattle.std.specs.Prelude.{ℕ, ◌≤◌, ◌≡◌, [], map, length}
use Rattle.std.proofs.Math.Path.{refl, ap}
use Rattle.std.proofs.Common.{sym, ◌∙◌, arith}
use Rattle.std.proofs.Math.Option.{none, some, some-injective, none-ne-some}
use Rattle.automata.specs.Saturation.{Saturated, rounds_added}
use Rattle.files.specs.Case.{case_refusal}
use Rattle.files.specs.Start.{start_refusal, starts_of}
use Rattle.services.specs.Saturate.{saturated}
use Rattle.services.specs.Judge.{JudgeInput, JudgeDone, judge_files, judge_lent, judge_left, judge_service, mark}
use Rattle.services.specs.Judge.Laws.{JudgeCase, case_refused, start_refused, answers_short, size_exceeded, judged}
use Rattle.services.proofs.Judge.Laws.{judge_cases}
use Rattle.sound_files.specs.Refusal.{FilesSound, answers_refusal}
use Rattle.sound_files.specs.Refusal.Laws.{before_case, before_start, before_below, before_past}

module _ (x : JudgeInput) where
  abbrev before : ℕ
  before = answers_refusal x.case x.start x.answers

  sound_files : case_refusal x.case ≡ 0 → start_refusal (judge_files x) ≡ 0 → FilesSound x.case x.start
  unfolding judge_files
  sound_files c s = record { sound_case = c; sound_start = s }

  -- with an answer for each start there is no refusal
  none_before : FilesSound x.case x.start → length (starts_of x.start) ≤ x.answers → before ≡ 0
  none_before = before_past x.case x.start x.answers 8 0

  refused_is : {d : JudgeDone} → JudgeCase x d → (before ≡ 0 → ⊥) → d ≡ judge_left x before 0 []
  unfolding judge_files
  refused_is (case_refused h) b = ap (λ (n : ℕ). judge_left x n 0 []) (sym (before_case x.case x.start x.answers 8 0 h))
  refused_is (start_refused c h) b = ap (λ (n : ℕ). judge_left x n 0 []) (sym (before_start x.case x.start x.answers 8 0 c h))
  refused_is (answers_short c s h) b =
      ap (λ (n : ℕ). judge_left x n 0 []) (sym (before_below x.case x.start x.answers 8 0 (sound_files c s) h))
  refused_is (size_exceeded c s h e) b = absurd (b (none_before (sound_files c s) h))
  refused_is (judged T c s h e) b = absurd (b (none_before (sound_files c s) h))

  pub answers_refused : (before ≡ 0 → ⊥) → judge_service x ≡ judge_left x before 0 []
  answers_refused b = refused_is (judge_cases x) b

  module _ (sound : FilesSound x.case x.start) (lent : length (starts_of x.start) ≤ x.answers) where
    exceeded_is : {d : JudgeDone} → JudgeCase x d → saturated (judge_lent x) x.rounds ≡ none → d ≡ judge_left x 9 0 []
    unfolding judge_files
    exceeded_is (case_refused h) e = absurd (h sound.sound_case)
    exceeded_is (start_refused c h) e = absurd (h sound.sound_start)
    exceeded_is (answers_short c s h) e = absurd (omega (arith, lent))
    exceeded_is (size_exceeded c s h f) e = refl
    exceeded_is (judged T c s h f) e = absurd (none-ne-some T (sym e ∙ f))

    pub answers_exceeded : saturated (judge_lent x) x.rounds ≡ none → judge_service x ≡ judge_left x 9 0 []
    answers_exceeded e = exceeded_is (judge_cases x) e

    judged_is : {d : JudgeDone} → JudgeCase x d → {T : Saturated} → saturated (judge_lent x) x.rounds ≡ some T
        → d ≡ judge_left x 0 (rounds_added T) (map (mark x.case T x.start) (starts_of x.start))
    unfolding judge_files
    judged_is (case_refused h) e = absurd (h sound.sound_case)
    judged_is (start_refused c h) e = absurd (h sound.sound_start)
    judged_is (answers_short c s h) e = absurd (omega (arith, lent))
    judged_is (size_exceeded c s h f) {T} e = absurd (none-ne-some T (sym f ∙ e))
    judged_is (judged U c s h f) {T} e =
        ap (λ (W : Saturated). judge_left x 0 (rounds_added W) (map (mark x.case W x.start) (starts_of x.start))) (some-injective U T (sym f ∙ e))

    pub answers_judged : {T : Saturated} → saturated (judge_lent x) x.rounds ≡ some T
        → judge_service x ≡ judge_left x 0 (rounds_added T) (map (mark x.case T x.start) (starts_of x.start))
    answers_judged e = judged_is (judge_cases x) e
