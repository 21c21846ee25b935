-- The round of the word that judge writes for one start.
-- Assumes nothing.
use Rattle.std.specs.Prelude.{ℕ, ◌-◌, ◌≤◌, ◌<◌, ◌≡◌, length, get_or}
use Rattle.std.proofs.Math.Path.{ap}
use Rattle.std.proofs.Common.{sym, ◌∙◌}
use Rattle.std.proofs.Math.Option.{some}
use Rattle.replies.specs.declared.Acceptance.{Acceptance}
use Rattle.replies.specs.Numbers.{answer_word, word_round}
use Rattle.automata.specs.Saturation.{Saturated}
use Rattle.rounds.specs.Won.{round2}
use Rattle.rounds.specs.Won.Laws.{round2_won}
use Rattle.files.proofs.Case.Laws.{case_rules, case_table}
use Rattle.files.specs.Start.{starts_of, start_at, configuration_of}
use Rattle.services.specs.Saturate.{saturated}
use Rattle.services.specs.Judge.{JudgeInput, JudgeDone, judge_lent, judge_left, judge_service, won}
use Rattle.demands.specs.Laws.Accepted.{answer_at_lem, mark_round}
use Rattle.acceptance.specs.Table.Laws.{is_saturated}
use Rattle.sound_files.specs.Refusal.{FilesSound}
use Rattle.judge.specs.Service.Cases.{answers_judged}

module _ (x : JudgeInput) (sound : FilesSound x.case x.start) (lent : length (starts_of x.start) ≤ x.answers) {T : Saturated}
    (is : saturated (judge_lent x) x.rounds ≡ some T) where
  -- by the recursion on the start's stack
  pub round_is : (n : ℕ) → n < length (starts_of x.start)
      → word_round (get_or (judge_service x).answers n 0)
      ≡ answer_word (round2 T (configuration_of x.start (start_at x.start n)).stack (start_at x.start n).control) - 1
  unfolding judge_left judge_lent won
  round_is n l =
      ap (λ (d : JudgeDone). word_round (get_or d.answers n 0)) (answers_judged x sound lent is)
      ∙ ap word_round (answer_at_lem x T n l)
      ∙ mark_round x T is (start_at x.start n)
      ∙ ap (λ (a : Acceptance). answer_word a - 1)
      (sym (round2_won (is_saturated (judge_lent x) x.rounds sound.sound_case is).after (λ ρ i. case_rules x.case sound.sound_case i) (case_table x.case sound.sound_case) _ _))
