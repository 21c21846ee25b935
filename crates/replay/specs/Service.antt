-- The service replay: its input and what it leaves, as the values of the code give them.
-- Assumes nothing.
pub mod Laws
use Rattle.std.specs.Prelude.{ℕ, ◌/◌, min, Bool, true, false, List, Result, Ok, Err}
use Rattle.replies.specs.declared.Refusal.{Refusal}
use Rattle.replies.specs.Numbers.{number_for}
use Rattle.replies.specs.declared.Replayed.{Replayed}
use Rattle.replies.specs.declared.Replayed.TheVariants.{Refused, Accepted, FailsAt}
use Rattle.services.specs.Replay.{ReplayInput, ReplayDone}

abbrev pub replay_input : List ℕ → List ℕ → ℕ → List ℕ → ℕ → ReplayInput
replay_input case start number trace cells = record { case = case; start = start; number = number; trace = trace; cells = cells }

abbrev pub replay_done : Replayed → List ℕ → ReplayDone
replay_done reply cells = record { reply = reply; cells = cells }

-- the cells that so many bytes lend, of which at most 4,096 count
abbrev pub lent_cells : ℕ → ℕ
lent_cells bytes = min (bytes / 6) 4096

-- the answer after n steps, the last of a trace, where they have ended in the target or not
abbrev pub arrival_answer : Bool → ℕ → Replayed
arrival_answer true n = Accepted
arrival_answer false n = FailsAt n

-- what is answered where nothing refuses, or a refusal
abbrev pub the_reply : Result Replayed Refusal → Replayed
the_reply (Ok r) = r
the_reply (Err r) = Refused (number_for r)
