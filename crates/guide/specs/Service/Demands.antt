-- The service's answer meets demands 1, 2 and 3.
-- Assumes nothing.
use Rattle.std.specs.Prelude.{◌≡◌}
use Rattle.std.proofs.Common.{sym, subst}
use Rattle.replies.specs.Numbers.{refusal_of}
use Rattle.services.specs.Guide.{GuideInput, GuideDone, guide_service}
use Rattle.demands.specs.Demand1.{GuideStates}
use Rattle.demands.proofs.Demand1.Proof.{demand1_guide}
use Rattle.demands.specs.Demand2.{GuideRuns, GuideSize}
use Rattle.demands.proofs.Demand2.Proof.{guide_runs, guide_size}
use Rattle.demands.specs.Demand3.{Guides}
use Rattle.demands.proofs.Demand3.Proof.{guides}

pub meets : (x : GuideInput) (d : GuideDone) → d ≡ guide_service x
    → (d ≡ guide_service x) × (GuideStates x d × (GuideRuns x d.reply × (GuideSize x (refusal_of d.reply) × Guides x d)))
meets x d e = (
  e,
  (
    subst (GuideStates x) (sym e) (demand1_guide x),
    (
      subst (λ (y : GuideDone). GuideRuns x y.reply) (sym e) (guide_runs x),
      (subst (λ (y : GuideDone). GuideSize x (refusal_of y.reply)) (sym e) (guide_size x), subst (Guides x) (sym e) (guides x)),
    ),
  ),
)
