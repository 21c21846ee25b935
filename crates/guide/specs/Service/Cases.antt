-- What guide answers, in the order in which the code comes to it: refused by the files or the number of the start, refused for size, or guided.
-- Assumes nothing.
use Rattle.std.specs.Prelude.{ℕ, ◌<◌, Bool, false, ◌≡◌, [], length}
use Rattle.std.proofs.Math.Path.{refl, ap}
use Rattle.std.proofs.Common.{sym, ◌∙◌, arith}
use Rattle.std.proofs.Math.Option.{none, some, some-injective, none-ne-some}
use Rattle.automata.specs.Saturation.{Saturated}
use Rattle.walks.specs.Guide.{Report, no_run}
use Rattle.files.specs.Case.{case_refusal}
use Rattle.files.specs.Start.{start_refusal, starts_of}
use Rattle.services.specs.Saturate.{saturated}
use Rattle.services.specs.Judge.{more_to_add}
use Rattle.services.specs.Guide.{GuideInput, GuideDone, guide_lent, guide_files, guide_run, guide_left, refused, guide_service, accepted, start_named, open_start}
use Rattle.services.proofs.Guide.Laws.{Started, GuideCase, guide_cases, case_refused, start_refused, start_missing, size_exceeded, no_run_holds, is_open, cells_short, walked}
use Rattle.sound_files.specs.Refusal.{FilesSound, number_refusal}
use Rattle.sound_files.specs.Refusal.Laws.{before_case, before_start, before_below, before_past}
use Rattle.guided_start.specs.Run.{unaccepted}
use Rattle.guided_start.specs.Run.Laws.{run_not, run_short, run_goes}

module _ (x : GuideInput) where
  abbrev before : ℕ
  before = number_refusal x.case x.start x.number

  sound_files : case_refusal x.case ≡ 0 → start_refusal (guide_files x) ≡ 0 → FilesSound x.case x.start
  unfolding guide_files
  sound_files c s = record { sound_case = c; sound_start = s }

  -- with a start of this number there is no refusal
  none_before : FilesSound x.case x.start → x.number < length (starts_of x.start) → before ≡ 0
  none_before = before_below x.case x.start x.number 0 7

  none_started : {T : Saturated} → Started x T → before ≡ 0
  none_started s = none_before (sound_files s.sound_case s.sound_start) s.start_there

  refused_is : {d : GuideDone} → GuideCase x d → (before ≡ 0 → ⊥) → d ≡ guide_left x (refused before)
  unfolding guide_files
  refused_is (case_refused h) b = ap (λ (n : ℕ). guide_left x (refused n)) (sym (before_case x.case x.start x.number 0 7 h))
  refused_is (start_refused c h) b = ap (λ (n : ℕ). guide_left x (refused n)) (sym (before_start x.case x.start x.number 0 7 c h))
  refused_is (start_missing c s h) b =
      ap (λ (n : ℕ). guide_left x (refused n))
      (sym (before_past x.case x.start x.number 0 7 (sound_files c s) h))
  refused_is (size_exceeded c s h e) b = absurd (b (none_before (sound_files c s) h))
  refused_is (no_run_holds T s a m) b = absurd (b (none_started s))
  refused_is (is_open T s a m) b = absurd (b (none_started s))
  refused_is (cells_short T s a l) b = absurd (b (none_started s))
  refused_is (walked T s a l) b = absurd (b (none_started s))

  pub answers_refused : (before ≡ 0 → ⊥) → guide_service x ≡ guide_left x (refused before)
  answers_refused b = refused_is (guide_cases x) b

  -- the report o of table U is that of table T
  same_run : {T U : Saturated} {o : Report} → saturated (guide_lent x) x.rounds ≡ some T → saturated (guide_lent x) x.rounds ≡ some U → guide_run x U ≡ o
      → guide_left x o ≡ guide_left x (guide_run x T)
  same_run {T} {U} e f r = ap (guide_left x) (sym r ∙ ap (guide_run x) (some-injective U T (sym f ∙ e)))

  -- what the run gives for a start that is not accepted
  not_accepted : (U : Saturated) → accepted U.table x.start (start_named x) ≡ false → {more : Bool} → more_to_add x.case U ≡ more
      → guide_run x U ≡ record { reply = unaccepted more; trace = [] }
  not_accepted U a m = run_not x U a ∙ ap (λ (b : Bool). record { reply = unaccepted b; trace = [] }) m

  module _ (sound : FilesSound x.case x.start) (there : x.number < length (starts_of x.start)) where
    exceeded_is : {d : GuideDone} → GuideCase x d → saturated (guide_lent x) x.rounds ≡ none → d ≡ guide_left x (refused 9)
    unfolding guide_files
    exceeded_is (case_refused h) e = absurd (h sound.sound_case)
    exceeded_is (start_refused c h) e = absurd (h sound.sound_start)
    exceeded_is (start_missing c s h) e = absurd (omega (arith, there))
    exceeded_is (size_exceeded c s h f) e = refl
    exceeded_is (no_run_holds T s a m) e = absurd (none-ne-some T (sym e ∙ s.table_is))
    exceeded_is (is_open T s a m) e = absurd (none-ne-some T (sym e ∙ s.table_is))
    exceeded_is (cells_short T s a l) e = absurd (none-ne-some T (sym e ∙ s.table_is))
    exceeded_is (walked T s a l) e = absurd (none-ne-some T (sym e ∙ s.table_is))

    pub answers_exceeded : saturated (guide_lent x) x.rounds ≡ none → guide_service x ≡ guide_left x (refused 9)
    answers_exceeded e = exceeded_is (guide_cases x) e

    guided_is : {d : GuideDone} → GuideCase x d → {T : Saturated} → saturated (guide_lent x) x.rounds ≡ some T → d ≡ guide_left x (guide_run x T)
    unfolding guide_files no_run open_start unaccepted
    guided_is (case_refused h) e = absurd (h sound.sound_case)
    guided_is (start_refused c h) e = absurd (h sound.sound_start)
    guided_is (start_missing c s h) e = absurd (omega (arith, there))
    guided_is (size_exceeded c s h f) {T} e = absurd (none-ne-some T (sym f ∙ e))
    guided_is (no_run_holds U s a m) e = same_run e s.table_is (not_accepted U a m)
    guided_is (is_open U s a m) e = same_run e s.table_is (not_accepted U a m)
    guided_is (cells_short U s a l) e = same_run e s.table_is (run_short x U a l)
    guided_is (walked U s a l) e = same_run e s.table_is (run_goes x U a l)

    pub answers_guided : {T : Saturated} → saturated (guide_lent x) x.rounds ≡ some T → guide_service x ≡ guide_left x (guide_run x T)
    answers_guided e = guided_is (guide_cases x) e
