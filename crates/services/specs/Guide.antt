-- The service guide.
-- Assumes nothing.
use Rattle.std.specs.Prelude.{ℕ, ◌/◌, min, Bool, true, false, List, [], ◌∷◌, ◌++◌, length, eqb, leb}
use Rattle.std.proofs.Math.Option.{none, some}
use Rattle.automata.specs.Automaton.{Automaton}
use Rattle.automata.specs.Acceptance.{accepts2}
use Rattle.automata.specs.Saturation.{Saturated}
use Rattle.replies.specs.declared.Reply.{Reply}
use Rattle.replies.specs.declared.Reply.TheVariants.{Refused, Open}
use Rattle.replies.specs.declared.Halt.TheVariants.{CellsShort}
use Rattle.walks.specs.Guide.{Report, walked_by, no_run, start_walk, guided}
use Rattle.files.specs.Bytes.{Test, first_hit, tests_on}
use Rattle.files.specs.Case.{case_tests, rules_of}
use Rattle.files.specs.Start.{Files, Start, start_tests, starts_of, cells_of, configuration_of, start_at}
use Rattle.services.specs.Memory.{padded}
use Rattle.words.specs.Lists.{zeros}
use Rattle.services.specs.Saturate.{Lent, saturated, size_tests}
use Rattle.services.specs.Judge.{more_to_add}

-- the two files, the number of a start, a number of rounds, and the lengths of the move and entry tables, cells and trace lent
pub record GuideInput : Type 0 where
  pub case : List ℕ
  pub start : List ℕ
  pub number : ℕ
  pub rounds : ℕ
  pub moves : ℕ
  pub entries : ℕ
  pub cells : ℕ
  pub trace : ℕ

unfoldable pub guide_lent : GuideInput → Lent
guide_lent x = record { case = x.case; moves = x.moves; entries = x.entries }

unfoldable pub guide_files : GuideInput → Files
guide_files x = record { case = x.case; start = x.start }

-- refusal 7: "the start named is not in the file"
unfoldable pub number_tests : {X : Type 0} → (X → List ℕ) → (X → ℕ) → List (Test X)
number_tests start number = record { fails = λ x. leb (length (starts_of (start x))) (number x); refusal = 7 } ∷ []

-- refusals 1 to 7, 9 and 12
unfoldable pub guide_refusal : GuideInput → ℕ
guide_refusal =
    first_hit
    (tests_on (λ x. x.case) case_tests
    ++ (tests_on guide_files start_tests ++ (number_tests (λ x. x.start) (λ x. x.number) ++ size_tests guide_lent (λ x. x.rounds))))

-- A lent cell is 68 words of 16 bits: its four fields and a choice for each of 64 states.
unfoldable pub cell_words : ℕ
cell_words = 68

-- "c be the cells lent or 4,096, the fewer"
unfoldable pub cells_lent : GuideInput → ℕ
cells_lent x = min (x.cells / cell_words) 4096

-- the start named
unfoldable pub start_named : GuideInput → Start
start_named x = start_at x.start x.number

-- "It is short if the lent cells .. are fewer than the start file's cells (tested before arrival, with 0 steps and 0 cells)."
unfoldable pub guide_walk : GuideInput → Saturated → Report
guide_walk x T = elim (leb (length (cells_of x.start)) (cells_lent x)) [
  | true ↦ guided (rules_of x.case) T (cells_lent x) x.trace []
      (start_walk T.table (cells_of x.start) (start_named x).control (start_named x).root)
  | false ↦ walked_by (CellsShort (record { steps = 0; cells = 0 })) []
]

-- the table accepts the start's stack from its control
unfoldable pub accepted : Automaton → List ℕ → Start → Bool
accepted A file x = accepts2 A (configuration_of file x).stack x.control

-- "An open start it answers with open, .. with no step and no cell."
unfoldable pub open_start : Report
open_start = record { reply = Open; trace = [] }

-- "No run (the start is marked no, tested before the cells lent)", and open "tested where no run is". Guide "works on the table of those
-- rounds alone".
unfoldable pub guide_run : GuideInput → Saturated → Report
guide_run x T = elim (accepted T.table x.start (start_named x)) [
  | true ↦ guide_walk x T
  | false ↦ elim (more_to_add x.case T) [ true ↦ open_start | false ↦ no_run ]
]

-- the reply, and all four lent slices afterwards
pub record GuideDone : Type 0 where
  pub reply : Reply
  pub moves : List ℕ
  pub entries : List ℕ
  pub cells : List ℕ
  pub trace : List ℕ

unfoldable pub guide_left : GuideInput → Report → GuideDone
guide_left x o =
    record {
      reply = o.reply;
      moves = zeros x.moves;
      entries = zeros x.entries;
      cells = zeros x.cells;
      trace = padded x.trace o.trace;
    }

unfoldable pub refused : ℕ → Report
refused n = record { reply = Refused n; trace = [] }

unfoldable pub guide_answer : GuideInput → ℕ → GuideDone
guide_answer x n = elim (eqb n 0) [
  | true ↦ elim (saturated (guide_lent x) x.rounds) [ none ↦ guide_left x (refused 9) | some T ↦ guide_left x (guide_run x T) ]
  | false ↦ guide_left x (refused n)
]

-- guide(case, start, number, rounds, moves, entries, cells, trace)
unfoldable pub guide_service : GuideInput → GuideDone
guide_service x = guide_answer x (guide_refusal x)
