-- The round of judge's word for the start that guide names: 0 where guide refuses, otherwise the least round whose table accepts the start.
-- Assumes nothing.
use Rattle.std.specs.Prelude.{ℕ, ◌≤◌, ◌<◌, ◌-◌, ◌≡◌, length, ltb}
use Rattle.std.proofs.Math.Path.{refl, ap, sym}
use Rattle.std.proofs.Common.{◌∙◌, arith, ltb-true, ltb-false}
use Rattle.std.proofs.Math.Option.{none, some}
use mathlib.Core.List.{List, []}
use Rattle.std.proofs.Math.ListN.{get_or, get_or-eq_default}
use Rattle.std.proofs.lemmas.List.{length-map}
use Rattle.words.specs.Laws.Tests.{by_test}
use Rattle.replies.specs.declared.Acceptance.{Acceptance}
use Rattle.replies.specs.declared.Acceptance.TheVariants.{Never}
use Rattle.replies.specs.Numbers.{answer_word, word_round}
use Rattle.automata.specs.Saturation.{Saturated}
use Rattle.rounds.specs.Won.{round2}
use Rattle.files.specs.Start.{starts_of, configuration_of, start_at}
use Rattle.services.specs.Memory.{padded}
use Rattle.services.specs.Memory.Laws.{get_or_padded}
use Rattle.services.specs.Saturate.{saturated}
use Rattle.services.specs.Judge.{JudgeInput, JudgeDone, judge_files, judge_lent, judge_left, mark}
use Rattle.services.specs.Judge.Laws.{JudgeCase, case_refused, start_refused, answers_short, size_exceeded, judged}
use Rattle.services.proofs.Judge.Laws.{judge_cases}
use Rattle.sound_files.specs.Refusal.{FilesSound, number_refusal}
use Rattle.sound_files.specs.Refusal.Laws.{before_below}
use Rattle.sound_files.specs.Sound.Laws.{starts_few}
use Rattle.sound_files.specs.Saturated.{lent_of}
use Rattle.judge.specs.Service.{judge_input}
use Rattle.judge.specs.Service.Cases.{answers_exceeded}
use Rattle.judge.specs.Service.Words.{round_is}
use Rattle.guide.specs.Service.{judged_round}

-- past the words there is 0
zero_past : (n : ℕ) (words : List ℕ) (i : ℕ) → length words ≤ i → get_or (padded n words) i 0 ≡ 0
zero_past n words i l = get_or_padded n words i ∙ get_or-eq_default words 0 l

module _ (case start : List ℕ) (number rounds m e : ℕ) where
  abbrev x : JudgeInput
  x = judge_input case start rounds m e 64

  refused_word : {d : JudgeDone} → JudgeCase x d → (number_refusal case start number ≡ 0 → ⊥) → get_or d.answers number 0 ≡ 0
  unfolding judge_left judge_files
  refused_word (case_refused h) b = zero_past 64 [] number (omega arith)
  refused_word (start_refused c h) b = zero_past 64 [] number (omega arith)
  refused_word (answers_short c s h) b = zero_past 64 [] number (omega arith)
  refused_word (size_exceeded c s h f) b = zero_past 64 [] number (omega arith)
  refused_word (judged T c s h f) b =
      by_test (ltb number (length (starts_of start)))
      (λ l. absurd (b (before_below case start number 0 7 (record { sound_case = c; sound_start = s }) (ltb-true _ _ l))))
      (λ l. zero_past 64 _ number (rw (length-map (starts_of start) (mark case T start)) (ltb-false _ _ l)))

  -- the word 0 has no round
  no_round : {w : ℕ} (a : Acceptance) → answer_word a ≡ 0 → w ≡ 0 → answer_word a - 1 ≡ word_round w
  unfolding word_round
  no_round a z e = ap (λ (k : ℕ). k - 1) z ∙ sym (ap word_round e)

  pub won_refused : {n : ℕ} → n ≡ number_refusal case start number → (n ≡ 0 → ⊥)
      → answer_word Never - 1 ≡ judged_round case start number rounds m e
  unfolding answer_word
  won_refused is h = no_round Never refl (refused_word (judge_cases x) (λ f. h (is ∙ f)))

  module _ (sound : FilesSound case start) where
    pub won_exceeded : saturated (lent_of case m e) rounds ≡ none → answer_word Never - 1 ≡ judged_round case start number rounds m e
    unfolding judge_left judge_lent answer_word
    won_exceeded h =
        no_round Never refl (ap (λ (d : JudgeDone). get_or d.answers number 0) (answers_exceeded x sound (starts_few sound) h) ∙ zero_past 64 [] number (omega arith))

    pub won_guided : {T : Saturated} {a : Acceptance} → number < length (starts_of start) → saturated (lent_of case m e) rounds ≡ some T
        → a ≡ round2 T (configuration_of start (start_at start number)).stack (start_at start number).control
        → answer_word a - 1 ≡ judged_round case start number rounds m e
    unfolding judge_lent
    won_guided l h is = ap (λ (w : Acceptance). answer_word w - 1) is ∙ sym (round_is x sound (starts_few sound) h number l)

-- the same round where a call before has kept the lengths of the tables
pub round_kept : (case start : List ℕ) (number rounds : ℕ) {w m m' e e' : ℕ} → w ≡ judged_round case start number rounds m e → m ≡ m' → e ≡ e'
    → w ≡ judged_round case start number rounds m' e'
round_kept case start number rounds h p q = h ∙ (λ i. judged_round case start number rounds (p i) (q i))
