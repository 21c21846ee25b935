-- The service guide: what it leaves, as the values of the code give it.
-- Assumes nothing.
pub mod Cases
pub mod Left
pub mod Demands
pub mod Won
use Rattle.std.specs.Prelude.{ℕ, List, get_or, Result, Ok, Err}
use Rattle.replies.specs.declared.Refusal.{Refusal}
use Rattle.replies.specs.declared.Acceptance.TheVariants.{Never}
use Rattle.replies.specs.declared.Reply.TheVariants.{Refused}
use Rattle.replies.specs.declared.Reply.{Reply}
use Rattle.replies.specs.Numbers.{number_for, word_round}
use Rattle.services.specs.Judge.{judge_service}
use Rattle.services.specs.Guide.{GuideDone}
use Rattle.guided_start.specs.declared.Guided.{Guided}
use Rattle.judge.specs.Service.{judge_input}

abbrev pub guide_done : Reply → List ℕ → List ℕ → List ℕ → List ℕ → GuideDone
guide_done reply moves entries cells trace =
    record { reply = reply; moves = moves; entries = entries; cells = cells; trace = trace }

-- The round is that of judge's word: the word for a start, where judge is asked for as many rounds and is lent tables of m and e words and an
-- answer for each start.
abbrev pub judged_round : List ℕ → List ℕ → ℕ → ℕ → ℕ → ℕ → ℕ
judged_round case start number rounds m e = word_round (get_or (judge_service (judge_input case start rounds m e 64)).answers number 0)

-- what was guided, or of a refusal no round
abbrev pub the_guided : Result Guided Refusal → Guided
the_guided (Ok g) = g
the_guided (Err r) = record { won = Never; reply = Refused (number_for r) }
