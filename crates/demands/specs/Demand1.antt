-- Demand 1: whatever the files and the lengths of the lent slices, a service judges them or refuses with the papers' number, and every lent
-- word then holds what the papers state. The services' contracts equate their code with the definitions; this is what the definitions
-- say. The proof is `demand1` in Demand1/Proof.antt.
-- Assumes nothing.
use Rattle.std.specs.Prelude.{ℕ, ◌<◌, min, true, false, ◌≡◌, List, length, get_or}
use Rattle.automata.specs.Automaton.{Automaton}
use Rattle.replies.specs.declared.Reply.{Reply}
use Rattle.replies.specs.declared.Reply.TheVariants.{Refused, NoRun, Open, Walked}
use Rattle.replies.specs.declared.Replayed.{Replayed}
use Rattle.replies.specs.declared.Brackets.{Brackets}
use Rattle.replies.specs.Numbers.{counts_of}
use Rattle.words.specs.Lists.{zeros}
use Rattle.files.specs.Start.{starts_of}
use Rattle.services.specs.Memory.{padded, move_table, entry_table}
use Rattle.services.specs.Saturate.{Lent, SaturateDone, saturate_service}
use Rattle.services.specs.Judge.{JudgeInput, JudgeDone, judge_service}
use Rattle.services.specs.Guide.{GuideInput, GuideDone, guide_service}
use Rattle.services.specs.Replay.{ReplayInput, ReplayDone, replay_service}
use Rattle.services.specs.Brackets.{BracketsInput, root_text, BracketsDone, brackets_service}
use Rattle.demands.specs.Reach.{Runs, accepted_in, AddsMove, AddsNothing, RoundsThatAdd, Marks}
use Rattle.demands.specs.Size.{SaturatedTable}
use Rattle.demands.specs.Refusals.{Returned, saturate_refusals, judge_refusals, guide_refusals, replay_refusals, brackets_refusals}
use Rattle.demands.specs.Traces.{RealFault, StepFails}
use Rattle.demands.specs.FullRun.{full_trace}

-- ---- saturate

-- "Saturate fills a move table .. and an entry table ..; only whole records count, the rest is zero", with its numbers of moves and entries. The table of
-- entries has "the count as a third word of the entry".
pub record Filled (x : Lent) (d : SaturateDone) : Type 0 where
  pub table : Automaton
  pub saturated : SaturatedTable x.case table
  pub moves_are : d.moves ≡ padded x.moves (move_table table)
  pub entries_are : d.entries ≡ padded x.entries (entry_table table)
  pub move_count_holds : d.reply.moves ≡ length table.moves
  pub entry_count : d.reply.entries ≡ length table.entries

-- "All zero", with "0 in a refusal" for both numbers.
pub record Emptied (x : Lent) (d : SaturateDone) : Type 0 where
  pub moves_zero : d.moves ≡ zeros x.moves
  pub entries_zero : d.entries ≡ zeros x.entries
  pub move_count_holds : d.reply.moves ≡ 0
  pub entry_count : d.reply.entries ≡ 0

-- what document 01 states of saturate's answer d to x
pub record SaturateStates (x : Lent) (d : SaturateDone) : Type 0 where
  pub number : Returned saturate_refusals x d.reply.code
  pub moves_length : length d.moves ≡ x.moves
  pub entries_length : length d.entries ≡ x.entries
  pub done : d.reply.code ≡ 0 → Filled x d
  pub refused : (d.reply.code ≡ 0 → ⊥) → Emptied x d

-- ---- judge

-- "Judge then writes 16 bits per start", "yes, no or open (65535)", "the rest zero".
pub record Marked (x : JudgeInput) (answers : List ℕ) : Type 0 where
  pub marks : List ℕ
  pub one_a_start : length marks ≡ length (starts_of x.start)
  pub each_mark : (n : ℕ) → n < length (starts_of x.start) → Marks x.case x.start x.rounds n (get_or marks n 0)
  pub answers_are : answers ≡ padded x.answers marks

-- "The count returned is the rounds that added something": the fewer of the rounds asked for and of all that add a move.
pub record CountsRounds (x : JudgeInput) (count : ℕ) : Type 0 where
  pub rounds : ℕ
  pub all_that_add : RoundsThatAdd x.case rounds
  pub count_is : count ≡ min x.rounds rounds

-- what the papers state of judge's answer d to x; the count is "0 in a refusal"
pub record JudgeStates (x : JudgeInput) (d : JudgeDone) : Type 0 where
  pub number : Returned judge_refusals x d.code
  pub moves_zero : d.moves ≡ zeros x.moves
  pub entries_zero : d.entries ≡ zeros x.entries
  pub answers_length : length d.answers ≡ x.answers
  pub done : d.code ≡ 0 → Marked x d.answers
  pub counted : d.code ≡ 0 → CountsRounds x d.rounds
  pub refused : (d.code ≡ 0 → ⊥) → (d.answers ≡ zeros x.answers) × (d.rounds ≡ 0)

-- ---- guide

-- the number and the trace of each answer: a refusal's number is the first that applies and its trace zero; where none applies, no run, of a start
-- that is not accepted while nothing is left to add, and from which there is none, leaves the trace zero, and so does open, of one that is not
-- accepted while a round more would add a move; a walk, of a start that is accepted and has a run, writes as many steps of the full run as
-- it reports, the rest being zero
abbrev pub Answered : GuideInput → Reply → List ℕ → Type 0
Answered x (Refused n) trace = Returned guide_refusals x n × (n ≡ 0 → ⊥) × (trace ≡ zeros x.trace)
Answered x NoRun trace =
    Returned guide_refusals x 0
    × (accepted_in x.case x.start x.number x.rounds ≡ false)
    × AddsNothing x.case x.rounds
    × (Runs x.case x.start x.number → ⊥)
    × (trace ≡ zeros x.trace)
Answered x Open trace =
    Returned guide_refusals x 0
    × (accepted_in x.case x.start x.number x.rounds ≡ false)
    × AddsMove x.case x.rounds
    × (trace ≡ zeros x.trace)
Answered x (Walked h) trace =
    Returned guide_refusals x 0
    × (accepted_in x.case x.start x.number x.rounds ≡ true)
    × Runs x.case x.start x.number
    × (trace ≡ padded x.trace (full_trace x.case x.start x.rounds x.number (counts_of h).steps))

-- what document 01 states of guide's answer d to x; how a walk halts is demand 3's
pub record GuideStates (x : GuideInput) (d : GuideDone) : Type 0 where
  pub answered : Answered x d.reply d.trace
  pub moves_zero : d.moves ≡ zeros x.moves
  pub entries_zero : d.entries ≡ zeros x.entries
  pub cells_zero : d.cells ≡ zeros x.cells
  pub trace_length : length d.trace ≡ x.trace

-- ---- replay

-- the number of each answer: a refusal's is the first that applies; where none applies, the trace is a real fault and accepted, or its first
-- step that fails is named
abbrev pub ReplayAnswered : ReplayInput → Replayed → Type 0
ReplayAnswered x (Replayed.Refused n) = Returned replay_refusals x n × (n ≡ 0 → ⊥)
ReplayAnswered x Replayed.Accepted = Returned replay_refusals x 0 × RealFault x
ReplayAnswered x (Replayed.FailsAt n) = Returned replay_refusals x 0 × StepFails x n

-- what document 02 states of replay's answer d to x: "The lent cells are always zeroed."
pub record ReplayStates (x : ReplayInput) (d : ReplayDone) : Type 0 where
  pub answered : ReplayAnswered x d.reply
  pub cells_zero : d.cells ≡ zeros x.cells

-- ---- brackets

-- the number and the text of each answer: a refusal's number is the first that applies and its text zero; where none applies, "the reply is the text's
-- length; bytes after it are zero", of the text of the start's root
abbrev pub BracketsAnswered : BracketsInput → Brackets → List ℕ → Type 0
BracketsAnswered x (Brackets.Refused n) text = Returned brackets_refusals x n × (n ≡ 0 → ⊥) × (text ≡ zeros x.text)
BracketsAnswered x (Brackets.Printed k) text =
    Returned brackets_refusals x 0 × (k ≡ length (root_text x)) × (text ≡ padded x.text (root_text x))

-- what document 02 states of brackets' answer d to x
pub record BracketsStates (x : BracketsInput) (d : BracketsDone) : Type 0 where
  pub answered : BracketsAnswered x d.reply d.text
  pub text_length : length d.text ≡ x.text

-- for every input of each service
abbrev pub Demand1 : Type 0
Demand1 =
    ((x : Lent) → SaturateStates x (saturate_service x))
    × ((x : JudgeInput) → JudgeStates x (judge_service x))
    × ((x : GuideInput) → GuideStates x (guide_service x))
    × ((x : ReplayInput) → ReplayStates x (replay_service x))
    × ((x : BracketsInput) → BracketsStates x (brackets_service x))
