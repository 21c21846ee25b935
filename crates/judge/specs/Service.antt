-- The service judge: its input and what it leaves, as the values of the code give them.
-- Assumes nothing.
pub mod Cases
pub mod Left
pub mod Demands
pub mod Words
use Rattle.std.specs.Prelude.{ℕ, List, Result, Ok, Err}
use Rattle.replies.specs.declared.Refusal.{Refusal}
use Rattle.replies.specs.Numbers.{number_for}
use Rattle.replies.specs.declared.Judged.{Judged}
use Rattle.services.specs.Judge.{JudgeInput, JudgeDone}

abbrev pub judge_input : List ℕ → List ℕ → ℕ → ℕ → ℕ → ℕ → JudgeInput
judge_input case start rounds moves entries answers =
    record { case = case; start = start; rounds = rounds; moves = moves; entries = entries; answers = answers }

abbrev pub judge_done : Judged → List ℕ → List ℕ → List ℕ → JudgeDone
judge_done reply moves entries answers =
    record { code = reply.code; rounds = reply.rounds; moves = moves; entries = entries; answers = answers }

-- the reply of a refusal
abbrev pub the_refused : ℕ → Judged
the_refused code = record { code = code; rounds = 0 }

-- the reply with the number of rounds, or of a refusal
abbrev pub the_reply : Result ℕ Refusal → Judged
the_reply (Ok rounds) = record { code = 0; rounds = rounds }
the_reply (Err r) = the_refused (number_for r)
