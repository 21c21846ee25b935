-- The service's answer meets demands 1 and 2, and the words with its entries are the counts by walking.
-- Assumes nothing.
use Rattle.std.specs.Prelude.{◌≡◌}
use Rattle.std.proofs.Common.{sym, subst}
use Rattle.services.specs.Saturate.{Lent, SaturateDone, saturate_service}
use Rattle.demands.specs.Refusals.{Returned, saturate_refusals}
use Rattle.demands.specs.Demand1.{SaturateStates}
use Rattle.demands.proofs.Demand1.Proof.{demand1_saturate}
use Rattle.demands.specs.Demand2.{SaturateSize}
use Rattle.demands.proofs.Demand2.Proof.{saturate_size}
use Rattle.demands.specs.MoveCounts.{CountsWalked}
use Rattle.demands.proofs.MoveCounts.Proof.{counts_walked}

pub meets : (x : Lent) (d : SaturateDone) → d ≡ saturate_service x
    → (d ≡ saturate_service x) × (SaturateStates x d × (SaturateSize x d.reply.code × (d.reply.code ≡ 0 → CountsWalked x d)))
meets x d e =
    let states : SaturateStates x d = subst (SaturateStates x) (sym e) (demand1_saturate x) in
    let counts : d.reply.code ≡ 0 → CountsWalked x d = λ z. (counts_walked x d states (subst (Returned saturate_refusals x) z states.number)).1 in
    (e, (states, (subst (λ (y : SaturateDone). SaturateSize x y.reply.code) (sym e) (saturate_size x), counts)))
