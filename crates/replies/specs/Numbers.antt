-- The papers' number and values for each case of an answer.
-- Assumes nothing.
pub mod Laws
use Rattle.std.specs.Prelude.{ℕ, suc, ◌-◌, Bool, true, false, eqb, Result, Ok, Err}
use Rattle.replies.specs.declared.Refusal.{Refusal}
use Rattle.replies.specs.declared.Refusal.TheVariants.{CaseContents, CaseHead, CaseRecords, CaseOrder, StartContents, StartRecords, NoSuchStart, FewAnswers, TableTooLarge, OddTrace, FewCells, ToolCodes, LongText}
use Rattle.replies.specs.declared.Acceptance.{Acceptance}
use Rattle.replies.specs.declared.Acceptance.TheVariants.{Never, Since}
use Rattle.replies.specs.declared.Counts.{Counts}
use Rattle.replies.specs.declared.Halt.{Halt}
use Rattle.replies.specs.declared.Halt.TheVariants.{Arrived, TraceFull, CellsShort}
use Rattle.replies.specs.declared.Reply.{Reply}
use Rattle.replies.specs.declared.Reply.TheVariants.{Refused, NoRun, Open, Walked}
use Rattle.replies.specs.declared.Replayed.{Replayed}
use Rattle.replies.specs.declared.Replayed.TheVariants as Replayed
use Rattle.replies.specs.declared.Brackets.{Brackets}
use Rattle.replies.specs.declared.Brackets.TheVariants as Brackets

-- The papers' number of each refusal: documents 01 and 02 give them by their tables.
abbrev pub number_for : Refusal → ℕ
number_for CaseContents = 1
number_for CaseHead = 2
number_for CaseRecords = 3
number_for CaseOrder = 4
number_for StartContents = 5
number_for StartRecords = 6
number_for NoSuchStart = 7
number_for FewAnswers = 8
number_for TableTooLarge = 9
number_for OddTrace = 10
number_for FewCells = 11
number_for ToolCodes = 12
number_for LongText = 13

-- the number with which a check refuses, and 0 where it does not
abbrev pub refusal_code : {A : Type 0} → Result A Refusal → ℕ
refusal_code (Ok x) = 0
refusal_code (Err r) = number_for r

-- The word for since when a stack is accepted: 0 for never, "otherwise that round plus 1". Working memory keeps it for the cells.
unfoldable pub answer_word : Acceptance → ℕ
answer_word Never = 0
answer_word (Since r) = suc r

-- "Judge .. marks each start yes, no or open (65535)."
abbrev pub open_word : ℕ
open_word = 65535

-- "0 for no, otherwise that round plus 1", by whether a round more would add a move: while it would, a start that is not accepted is open.
unfoldable pub mark_word : Bool → Acceptance → ℕ
mark_word more Never = elim more [ true ↦ open_word | false ↦ 0 ]
mark_word more (Since r) = suc r

-- the round of a word that says yes, and 0 of any other
unfoldable pub word_round : ℕ → ℕ
word_round w = elim (eqb w open_word) [ true ↦ 0 | false ↦ w - 1 ]

-- the counts of a halt
unfoldable pub counts_of : Halt → Counts
counts_of (Arrived c) = c
counts_of (TraceFull c) = c
counts_of (CellsShort c) = c

-- the number that document 01 returns with a refusal, and 0 for an answer that is none
unfoldable pub refusal_of : Reply → ℕ
refusal_of (Refused n) = n
refusal_of NoRun = 0
refusal_of Open = 0
refusal_of (Walked h) = 0

-- The number of an answer for a caller that has no enums. A refusal has document 01's number, a walk that arrived 0, and each of the other
-- answers a number above 255.
abbrev pub number_of : Reply → ℕ
number_of (Refused n) = n
number_of NoRun = 258
number_of Open = 259
number_of (Walked (Arrived c)) = 0
number_of (Walked (TraceFull c)) = 256
number_of (Walked (CellsShort c)) = 257

-- the steps and cells of an answer, 0 and 0 where it has none
abbrev pub reply_counts : Reply → Counts
reply_counts (Refused n) = record { steps = 0; cells = 0 }
reply_counts NoRun = record { steps = 0; cells = 0 }
reply_counts Open = record { steps = 0; cells = 0 }
reply_counts (Walked (Arrived c)) = c
reply_counts (Walked (TraceFull c)) = c
reply_counts (Walked (CellsShort c)) = c

-- The same for what replay answers: document 02's number of a refusal, 0 for a trace that is accepted, and 260 for one that fails.
abbrev pub replay_number : Replayed → ℕ
replay_number (Replayed.Refused n) = n
replay_number Replayed.Accepted = 0
replay_number (Replayed.FailsAt n) = 260

-- the step that fails, 0 where none does
abbrev pub replay_step : Replayed → ℕ
replay_step (Replayed.Refused n) = 0
replay_step Replayed.Accepted = 0
replay_step (Replayed.FailsAt n) = n

-- The same for what brackets answers: document 02's number of a refusal, and 0 for a text that is printed.
abbrev pub brackets_number : Brackets → ℕ
brackets_number (Brackets.Refused n) = n
brackets_number (Brackets.Printed k) = 0

-- "The reply is the text's length", 0 in a refusal.
abbrev pub brackets_length : Brackets → ℕ
brackets_length (Brackets.Refused n) = 0
brackets_length (Brackets.Printed k) = k
