-- The service's answer meets demands 1 and 2.
-- Assumes nothing.
use Rattle.std.specs.Prelude.{◌≡◌}
use Rattle.std.proofs.Common.{sym, subst}
use Rattle.services.specs.Judge.{JudgeInput, JudgeDone, judge_service}
use Rattle.demands.specs.Demand1.{JudgeStates}
use Rattle.demands.proofs.Demand1.Proof.{demand1_judge}
use Rattle.demands.specs.Demand2.{JudgeMarks, JudgeSize}
use Rattle.demands.proofs.Demand2.Proof.{judge_marks, judge_size}

pub meets : (x : JudgeInput) (d : JudgeDone) → d ≡ judge_service x
    → (d ≡ judge_service x) × (JudgeStates x d × (JudgeMarks x d × JudgeSize x d.code))
meets x d e = (
  e,
  (
    subst (JudgeStates x) (sym e) (demand1_judge x),
    (subst (JudgeMarks x) (sym e) (judge_marks x), subst (λ (y : JudgeDone). JudgeSize x y.code) (sym e) (judge_size x)),
  ),
)
