-- The promises of replay: it accepts exactly the real faults, names the first step that fails, is short exactly where cells are missing,
-- and accepts every trace of guide that arrived. The proofs are in Replays/Proof.antt.
-- Assumes nothing.
use Rattle.std.specs.Prelude.{ℕ, ◌≤◌, ◌/◌, ◌%◌, ◌≡◌, ◌↔◌, List, [], ◌∷◌, take}
use Rattle.words.specs.Lists.{each}
use Rattle.replies.specs.declared.Counts.{Counts}
use Rattle.replies.specs.declared.Halt.TheVariants.{Arrived}
use Rattle.replies.specs.declared.Reply.TheVariants.{Walked}
use Rattle.replies.specs.declared.Replayed.{Replayed}
use Rattle.replies.specs.declared.Replayed.TheVariants.{Refused, Accepted, FailsAt}
use Rattle.services.specs.Guide.{GuideInput, guide_service}
use Rattle.services.specs.Replay.{ReplayInput, replay_service}
use Rattle.demands.specs.Reach.{Runs}
use Rattle.demands.specs.Refusals.{Returned, early_refusals}
use Rattle.demands.specs.Traces.{RealFault, StepFails, CellsMissing}

-- no refusal 1 to 7, 10 or 12
abbrev pub Sound : ReplayInput → Type 0
Sound x = Returned early_refusals x 0

-- When each answer is given.
pub record AnswersExactly (x : ReplayInput) (reply : Replayed) : Type 0 where
  pub accepted : (reply ≡ Accepted) ↔ (Sound x × RealFault x)
  pub fails : (n : ℕ) → (reply ≡ FailsAt n) ↔ (Sound x × StepFails x n)
  pub short : (reply ≡ Refused 11) ↔ (Sound x × CellsMissing x)

abbrev pub ReplayExactly : Type 0
ReplayExactly = (x : ReplayInput) → AnswersExactly x (replay_service x).reply

-- A trace that is accepted is a run of the published system: the start is not marked no.
abbrev pub AcceptedRuns : Type 0
AcceptedRuns = (x : ReplayInput) → (replay_service x).reply ≡ Accepted → Runs x.case x.start x.number

-- ---- traces of guide

-- words of a trace as "rule numbers of two bytes each", low byte first
unfoldable pub trace_bytes : List ℕ → List ℕ
trace_bytes words = each words (λ w. w % 256 ∷ w / 256 ∷ [])

-- replay's input for the first steps that guide has written, with so many bytes lent for cells
unfoldable pub replay_of : GuideInput → ℕ → ℕ → ReplayInput
replay_of x steps cells =
    record {
      case = x.case;
      start = x.start;
      number = x.number;
      trace = trace_bytes (take steps (guide_service x).trace);
      cells = cells;
    }

-- "Every trace of the guide that arrived is accepted if the replay has cells": at least as many as guide says it used.
abbrev pub GuideAccepted : Type 0
GuideAccepted =
    (x : GuideInput) (c : Counts) (cells : ℕ) → (guide_service x).reply ≡ Walked (Arrived c) → c.cells ≤ cells / 6
    → (replay_service (replay_of x c.steps cells)).reply ≡ Accepted
