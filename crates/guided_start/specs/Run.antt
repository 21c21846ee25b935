-- The guided run from a start on a table that is there: its input, the cells lent, what is answered without a walk.
-- Assumes nothing.
pub mod Laws
use Rattle.std.specs.Prelude.{ℕ, ◌/◌, min, Bool, true, false, List, length}
use Rattle.replies.specs.declared.Reply.{Reply}
use Rattle.replies.specs.declared.Reply.TheVariants.{NoRun, Open, Walked}
use Rattle.replies.specs.declared.Halt.TheVariants.{CellsShort}
use Rattle.walks.specs.Guide.{Report}
use Rattle.services.specs.Guide.{GuideInput, guide_run}
use Rattle.tables.specs.declared.Table.{Table}
use Rattle.tables.specs.declared.view.Tables.{Tables}
use Rattle.saturation.specs.declared.after_rounds.AfterRounds.{AfterRounds}
use Rattle.saturation.specs.Held.{saturated_in}

abbrev pub guide_input : List ℕ → List ℕ → ℕ → ℕ → ℕ → ℕ → ℕ → ℕ → GuideInput
guide_input case start number rounds moves entries cells trace =
    record { case = case; start = start; number = number; rounds = rounds; moves = moves; entries = entries; cells = cells; trace = trace }

-- the input of a run on a table that is there: the run does not depend on the rounds that are asked for
abbrev pub table_input : List ℕ → List ℕ → ℕ → ℕ → ℕ → ℕ → ℕ → GuideInput
table_input case start number moves entries cells trace = guide_input case start number 0 moves entries cells trace

-- the run from start `number` on the table that stands in these tables, its sizes in the first k rows, with so many words lent for cells and trace
abbrev pub guided_from : List ℕ → List ℕ → ℕ → Table → List ℕ → List ℕ → List ℕ → ℕ → List ℕ → ℕ → ℕ → Report
guided_from case start number z inner entries moves k sizes cells trace =
    guide_run (table_input case start number (length moves) (length entries) cells trace) (saturated_in z inner entries moves k sizes)

-- the same by the tables as one value
abbrev pub guided_on : List ℕ → List ℕ → ℕ → Tables → ℕ → List ℕ → ℕ → ℕ → Report
guided_on case start number t k sizes cells trace = guided_from case start number t.table t.inner.now t.entries.now t.moves.now k sizes cells trace

-- the same by the tables after rounds as one value
abbrev pub guided_by : List ℕ → List ℕ → ℕ → AfterRounds → ℕ → ℕ → Report
guided_by case start number r cells trace = guided_on case start number r.tables r.count r.sizes.now cells trace

-- the cells that so many words lend, of which at most 4,096 count
abbrev pub lent_cells : ℕ → ℕ
lent_cells words = min (words / 68) 4096

-- short before any step
abbrev pub short_at_start : Reply
short_at_start = Walked (CellsShort (record { steps = 0; cells = 0 }))

-- the answer for a start that is not accepted, as a round more would add a move or not
unfoldable pub unaccepted : Bool → Reply
unaccepted more = elim more [ true ↦ Open | false ↦ NoRun ]
