-- What an export leaves, beside what the service leaves that it calls.
-- Assumes nothing.
pub mod Laws
use Rattle.std.specs.Prelude.{ℕ, List}
use Rattle.replies.specs.declared.Saturation.{Saturation}
use Rattle.replies.specs.declared.Judged.{Judged}
use Rattle.replies.specs.declared.Counts.{Counts}
use Rattle.replies.specs.Numbers.{number_of, reply_counts, replay_number, replay_step, brackets_number, brackets_length}
use Rattle.services.specs.Guide.{GuideDone}
use Rattle.services.specs.Replay.{ReplayDone}
use Rattle.services.specs.Brackets.{BracketsDone}

-- saturate's reply: the number returned and the two words written
abbrev pub the_reply : ℕ → ℕ → ℕ → Saturation
the_reply code moves entries = record { code = code; moves = moves; entries = entries }

-- judge's reply: the number returned and the word written
abbrev pub the_judged : ℕ → ℕ → Judged
the_judged code rounds = record { code = code; rounds = rounds }

-- guide's answer as a number and two counts, and all four lent slices afterwards
pub record GuideAnswer : Type 0 where
  pub number : ℕ
  pub counts : Counts
  pub moves : List ℕ
  pub entries : List ℕ
  pub cells : List ℕ
  pub trace : List ℕ

abbrev pub the_counts : ℕ → ℕ → Counts
the_counts steps cells = record { steps = steps; cells = cells }

abbrev pub the_answer : ℕ → Counts → List ℕ → List ℕ → List ℕ → List ℕ → GuideAnswer
the_answer number counts moves entries cells trace =
    record { number = number; counts = counts; moves = moves; entries = entries; cells = cells; trace = trace }

unfoldable pub answer_of : GuideDone → GuideAnswer
answer_of d = the_answer (number_of d.reply) (reply_counts d.reply) d.moves d.entries d.cells d.trace

-- replay's answer as a number and a step, and the lent cells afterwards
pub record ReplayAnswer : Type 0 where
  pub number : ℕ
  pub step : ℕ
  pub cells : List ℕ

abbrev pub the_replay : ℕ → ℕ → List ℕ → ReplayAnswer
the_replay number step cells = record { number = number; step = step; cells = cells }

unfoldable pub replay_of : ReplayDone → ReplayAnswer
replay_of d = the_replay (replay_number d.reply) (replay_step d.reply) d.cells

-- brackets' answer as a number and a length, and the lent text afterwards
pub record BracketsAnswer : Type 0 where
  pub number : ℕ
  pub printed : ℕ
  pub text : List ℕ

abbrev pub the_brackets : ℕ → ℕ → List ℕ → BracketsAnswer
the_brackets number printed text = record { number = number; printed = printed; text = text }

unfoldable pub brackets_of : BracketsDone → BracketsAnswer
brackets_of d = the_brackets (brackets_number d.reply) (brackets_length d.reply) d.text
