-- The papers' table of refusals: each number with the sentence that says when it applies, in the order of the tests.
-- Assumes nothing.
pub mod Codes
pub mod Laws
pub mod Brackets
use Rattle.std.specs.Prelude.{ℕ, ◌%◌, ◌≤◌, ◌<◌, Bool, false, ◌≡◌, ◌⊎◌, length, get_or}
use mathlib.Core.List.{List, [], ◌∷◌, ◌++◌, Memᴰ}
use Rattle.words.specs.Order.{rising}
use Rattle.automata.specs.Automaton.{no_entry}
use Rattle.files.specs.Case.{case_placed, head, head_right, codes_of, rule_right, rule_records, edge_right, edge_key, edge_records, entries_of, move_right, move_key, move_records, states1}
use Rattle.files.specs.Start.{Files, start_placed, starts_of, start_right, CellBytes, cell_records, cell_right}
use Rattle.services.specs.Saturate.{Lent}
use Rattle.services.specs.Judge.{JudgeInput, judge_lent, judge_files}
use Rattle.services.specs.Guide.{GuideInput, guide_lent, guide_files}
use Rattle.services.specs.Replay.{ReplayInput, replay_files}
use Rattle.services.specs.Brackets.{BracketsInput, brackets_files, root_text}
use Rattle.demands.specs.Size.{Exceeds, ExceedsIn}
use Rattle.demands.specs.Traces.{CellsMissing}

-- a line of the table: a number, and when it applies to an input
pub record Refusal (X : Type 0) : Type 1 where
  pub number : ℕ
  pub applies : X → Type 0

abbrev pub refusal : {X : Type 0} → ℕ → (X → Type 0) → Refusal X
refusal n when = record { number = n; applies = when }

-- "The lowest number that applies is returned": n is the number of the first line that applies to x, or 0 where none does.
unfoldable pub Returned : {X : Type 0} → List (Refusal X) → X → ℕ → Type 0
Returned [] x n = n ≡ 0
Returned (r ∷ rs) x n = (r.applies x × (n ≡ r.number)) ⊎ ((r.applies x → ⊥) × Returned rs x n)

-- ---- when each number applies

-- one of these records fails the test
pub record SomeFails {X : Type 0} (test : X → Bool) (records : List X) : Type 0 where
  pub record_is : X
  pub among : Memᴰ record_is records
  pub fails : test record_is ≡ false

-- 1: "The case's first byte, contents table, a count or the length is wrong."
abbrev pub CaseWrong : List ℕ → Type 0
CaseWrong case = case_placed case ≡ false

-- 2: "A field of case body 1 is out of range."
abbrev pub FieldWrong : List ℕ → Type 0
FieldWrong case = head_right (head case) ≡ false

-- one of these bytes is zero
pub record ZeroCode (codes : List ℕ) : Type 0 where
  pub place : ℕ
  pub there : place < length codes
  pub is_zero : get_or codes place 0 ≡ 0

-- two of these bytes are the same
pub record SameCodes (codes : List ℕ) : Type 0 where
  pub one : ℕ
  pub other : ℕ
  pub after : one < other
  pub there : other < length codes
  pub same : get_or codes one 0 ≡ get_or codes other 0

-- 12, "after 2": "the eight bytes are not all different, or one is zero".
abbrev pub CodesWrong : List ℕ → Type 0
CodesWrong case = SameCodes (codes_of case) ⊎ ZeroCode (codes_of case)

-- 3: "A rule, edge or move breaks a bound of its body (b, or B against its order, included), or entries are too many." "A code not in the
-- record is refusal 3": `rule_records` gives each rule with our code, and with 0, which is no code, where its own is not in the record.
abbrev pub BoundBroken : List ℕ → Type 0
BoundBroken case =
    SomeFails (rule_right (head case)) (rule_records case)
    ⊎ (SomeFails (edge_right (head case)) (edge_records case)
    ⊎ (SomeFails (move_right (head case) (states1 case)) (move_records case) ⊎ (64 < states1 case)))

-- "A second entry for the same state and S": two of the case's entries, by number, are one.
pub record SecondEntry (case : List ℕ) : Type 0 where
  pub one : ℕ
  pub other : ℕ
  pub after : one < other
  pub there : other < length (entries_of (head case) (edge_records case))
  pub same : get_or (entries_of (head case) (edge_records case)) one no_entry ≡ get_or (entries_of (head case) (edge_records case)) other no_entry

-- 4: "Edges or moves are not strictly increasing." "A second entry for the same state and S is refusal 4."
abbrev pub NotIncreasing : List ℕ → Type 0
NotIncreasing case = (rising edge_key (edge_records case) ≡ false) ⊎ ((rising move_key (move_records case) ≡ false) ⊎ SecondEntry case)

-- 5: "The start file's first byte, contents table, a count or the length is wrong."
abbrev pub StartFileWrong : Files → Type 0
StartFileWrong f = start_placed f.start ≡ false

-- cell n of a start file is out of range, refers to a cell of the wrong order, or fills an unused field
pub record CellWrong (symbols : ℕ) (cells : List CellBytes) : Type 0 where
  pub number : ℕ
  pub there : number < length cells
  pub fails : cell_right symbols cells number (get_or cells number (record { kind = 0; symbol = 0; first = 0; second = 0 })) ≡ false

-- 6: "A start or cell is out of range, refers to a cell of the wrong order, or fills an unused field."
abbrev pub StartOrCellWrong : Files → Type 0
StartOrCellWrong f =
    SomeFails (start_right (head f.case).P (cell_records f.start)) (starts_of f.start)
    ⊎ CellWrong (head f.case).A (cell_records f.start)

-- 7: "The start named is not in the file."
abbrev pub StartMissing : List ℕ → ℕ → Type 0
StartMissing start number = length (starts_of start) ≤ number

-- 8: judge has fewer answers, words of 16 bits, than starts. "Refusal 8 counts these words."
abbrev pub AnswersShort : JudgeInput → Type 0
AnswersShort x = x.answers < length (starts_of x.start)

-- 9 is `Exceeds` in Size.antt for saturate, and `ExceedsIn` for judge and guide.

-- 10: "The trace has an odd number of bytes."
abbrev pub TraceOdd : ReplayInput → Type 0
TraceOdd x = length x.trace % 2 ≡ 1

-- 11 is `CellsMissing` in Traces.antt.

-- 13, "after 7": "the text is longer than the bytes lent".
abbrev pub TextLonger : BracketsInput → Type 0
TextLonger x = x.text < length (root_text x)

-- ---- the numbers of each service, in the order of the tests

abbrev pub case_refusals : {X : Type 0} → (X → List ℕ) → List (Refusal X)
case_refusals case =
    refusal 1 (λ x. CaseWrong (case x))
    ∷ refusal 2 (λ x. FieldWrong (case x))
    ∷ refusal 12 (λ x. CodesWrong (case x))
    ∷ refusal 3 (λ x. BoundBroken (case x))
    ∷ refusal 4 (λ x. NotIncreasing (case x))
    ∷ []

abbrev pub start_refusals : {X : Type 0} → (X → Files) → List (Refusal X)
start_refusals files = refusal 5 (λ x. StartFileWrong (files x)) ∷ refusal 6 (λ x. StartOrCellWrong (files x)) ∷ []

abbrev pub saturate_refusals : List (Refusal Lent)
saturate_refusals = case_refusals (λ x. x.case) ++ (refusal 9 Exceeds ∷ [])

abbrev pub judge_refusals : List (Refusal JudgeInput)
judge_refusals =
    case_refusals (λ x. x.case)
    ++ (start_refusals judge_files ++ (refusal 8 AnswersShort ∷ refusal 9 (λ x. ExceedsIn (judge_lent x) x.rounds) ∷ []))

abbrev pub guide_refusals : List (Refusal GuideInput)
guide_refusals =
    case_refusals (λ x. x.case)
    ++ (start_refusals guide_files ++ (refusal 7 (λ x. StartMissing x.start x.number) ∷ refusal 9 (λ x. ExceedsIn (guide_lent x) x.rounds) ∷ []))

-- of replay, 11 left out
abbrev pub early_refusals : List (Refusal ReplayInput)
early_refusals =
    case_refusals (λ x. x.case)
    ++ (start_refusals replay_files ++ (refusal 7 (λ x. StartMissing x.start x.number) ∷ refusal 10 TraceOdd ∷ []))

abbrev pub replay_refusals : List (Refusal ReplayInput)
replay_refusals = early_refusals ++ (refusal 11 CellsMissing ∷ [])

-- of brackets, 13 left out
abbrev pub brackets_early : List (Refusal BracketsInput)
brackets_early = case_refusals (λ x. x.case) ++ (start_refusals brackets_files ++ (refusal 7 (λ x. StartMissing x.start x.number) ∷ []))

-- "1 to 7 and 12 hold here too."
abbrev pub brackets_refusals : List (Refusal BracketsInput)
brackets_refusals = brackets_early ++ (refusal 13 TextLonger ∷ [])
