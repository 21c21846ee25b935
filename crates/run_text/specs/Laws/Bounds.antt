-- What guide answers keeps the bounds.
-- Assumes nothing.
use Prim.Native.Nat.{ℕ, zero, suc, ◌+◌, ◌≤◌, ◌<◌}
use mathlib.Core.List.{List, [], ◌∷◌, ◌++◌}
use native.Mathlib.Omega.{arith}
use Rattle.std.proofs.Math.ListN.{length, length-append}
use Rattle.std.specs.Prelude.{leb}
use Rattle.words.specs.Laws.Tests.{by_test}
use Rattle.stacks.specs.System.{Rule}
use Rattle.automata.specs.Saturation.{Saturated}
use Rattle.replies.specs.Numbers.{counts_of}
use Rattle.walks.specs.Guide.{Walk, counts, walked_by, no_run, guided}
use Rattle.guidance.specs.Run.{by_next}
use Rattle.files.specs.Start.{starts_of}
use Rattle.services.specs.Guide.{GuideInput, GuideDone, guide_files, open_start, guide_left, refused, guide_service}
use Rattle.services.proofs.Guide.Laws.{Started, GuideCase, case_refused, start_refused, start_missing, size_exceeded, no_run_holds, is_open, cells_short, walked, guide_cases}
use Rattle.sound_files.specs.Sound.Laws.{starts_few}
use Rattle.answer_text.specs.Bounds.{Bounded}

module _ (number : ℕ) (few : number < 64) (rules : List Rule) (T : Saturated) (c : ℕ) where
  -- with t trace words left of so many
  guided_bounded : (t : ℕ) (trace : List ℕ) (w : Walk) (words : ℕ) → length trace + t ≤ words → Bounded number words (guided rules T c t trace w).reply
  unfolding guided walked_by no_run counts Bounded counts_of
  guided_bounded zero trace w words h = by_next rules T w
      (λ e. rw (guided, e) (few, omega arith))
      (λ n v e. rw (guided, e) (few, omega arith))
      (λ e. rw (guided, e) few)
  guided_bounded (suc t) trace w words h = by_next rules T w
      (λ e. rw (guided, e) (few, omega arith))
      (λ n v e. by_test (leb (length v.cells) c)
      (λ b. rw (guided, e, b) (guided_bounded t (trace ++ (n ∷ [])) v words (omega (arith, length-append trace (n ∷ [])))))
      (λ b. rw (guided, e, b) (few, omega arith)))
      (λ e. rw (guided, e) few)

module _ (x : GuideInput) where
  number_few : {T : Saturated} → Started x T → x.number < 64
  unfolding guide_files
  number_few s =
      let there : x.number < length (starts_of x.start) = s.start_there in
      let few = starts_few (record { sound_case = s.sound_case; sound_start = s.sound_start }) in
      omega arith

  case_bounded : {d : GuideDone} → GuideCase x d → Bounded x.number x.trace d.reply
  unfolding guide_left refused walked_by no_run open_start Bounded counts_of
  case_bounded (case_refused h) = tt
  case_bounded (start_refused c h) = tt
  case_bounded (start_missing c s h) = tt
  case_bounded (size_exceeded c s h e) = tt
  case_bounded (no_run_holds T s a m) = number_few s
  case_bounded (is_open T s a m) = number_few s
  case_bounded (cells_short T s a l) = (number_few s, omega arith)
  case_bounded (walked T s a l) = guided_bounded x.number (number_few s) _ T _ x.trace [] _ x.trace (omega arith)

  pub guide_bounded : Bounded x.number x.trace (guide_service x).reply
  guide_bounded = case_bounded (guide_cases x)
