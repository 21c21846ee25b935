-- A turn of a guided walk on lent cells with a lent trace: what is asked before it, and what it answers.
-- Assumes nothing.
pub mod Laws
pub mod Whole
use Rattle.std.specs.Prelude.{ℕ, ◌+◌, ◌-◌, ◌*◌, ◌≤◌, ◌<◌, ◌≡◌, List, length, take, drop, set}
use Rattle.stacks.specs.Stack.{Operation, new_cells}
use Rattle.stacks.specs.System.{Rule}
use Rattle.automata.specs.Automaton.{Automaton}
use Rattle.automata.specs.Saturation.{Saturated}
use Rattle.replies.specs.declared.Counts.{Counts}
use Rattle.replies.specs.declared.Halt.{Halt}
use Rattle.replies.specs.declared.Halt.TheVariants.{TraceFull, CellsShort}
use Rattle.replies.specs.declared.Reply.{Reply}
use Rattle.walks.specs.Guide.{Report, walked_by, no_run, guided}
use Rattle.services.specs.Memory.{padded}
use Rattle.words.specs.Lists.{zeros}
use Rattle.tables.specs.declared.Table.{Table}
use Rattle.results.specs.Collecting.{RulesStand}
use Rattle.first_reading.specs.Words.{TablesFew}
use Rattle.cell_steps.specs.declared.Top.{Top}
use Rattle.guided_step.specs.declared.Walk.{Walk}
use Rattle.guided_step.specs.Walks.{walk_in}
use Rattle.guided_walk.specs.declared.Going.{Going}
use Rattle.guided_walk.specs.declared.Going.TheVariants.{Halted, Stuck, On}
use Rattle.guided_walk.specs.Stepped.{Steps}

-- What is asked of the tables, the rules and the lent cells.
pub record RunStands (z : Table) (body : List ℕ) (count : ℕ) (cells : List ℕ) (most : ℕ) : Type 0 where
  pub tables_few : TablesFew z
  pub rules_stand : RulesStand count body
  pub rules_few : count ≤ 256
  pub cells_lent_holds : most * 68 ≤ length cells
  pub cells_few : most ≤ 4096

-- What a report leaves: its reply, and its trace in a slice of so many words.
pub record Leaves (o : Report) (words : ℕ) (reply : Reply) (trace : List ℕ) : Type 0 where
  pub reply_is : reply ≡ o.reply
  pub trace_is : trace ≡ padded words o.trace

-- the steps and cells of a walk
abbrev pub counts_in : Walk → Counts
counts_in w = record { steps = w.steps; cells = w.cells }

-- The walk is within the lent cells and trace, and the trace is zero from its steps on.
pub record Walking (most : ℕ) (w : Walk) (trace : List ℕ) : Type 0 where
  pub cells_lent_holds : w.cells ≤ most
  pub steps_lent : w.steps ≤ length trace
  pub rest_zero : drop w.steps trace ≡ zeros (length trace - w.steps)

-- ---- a walk that has not arrived, whose next step is by the operation

-- "then trace, then cells"
pub data TurnHalts (most : ℕ) (op : Operation) (w : Walk) (trace : List ℕ) : Halt → Type 0 where
  full : {k : Counts} → length trace ≤ w.steps → k ≡ counts_in w → TurnHalts most op w trace (TraceFull k)
  short : {k : Counts} → w.steps < length trace → most < w.cells + new_cells op → k ≡ counts_in w → TurnHalts most op w trace (CellsShort k)

-- The step is taken, to control p' from premise p at top x, and its rule's number n is written.
pub record Passes (most : ℕ) (A : Automaton) (op : Operation) (p' n p : ℕ) (x : Top) (es ms : List ℕ) (w : Walk) (cells trace : List ℕ) (v : Walk) (cells' trace' : List ℕ) : Type 0 where
  pub words_left : w.steps < length trace
  pub cells_left : w.cells + new_cells op ≤ most
  pub steps : Steps A op p' p x es ms w cells v cells'
  pub written : trace' ≡ set trace w.steps n

-- What is answered.
abbrev pub StepAnswers : ℕ → Automaton → Operation → ℕ → ℕ → ℕ → Top → List ℕ → List ℕ → Walk → List ℕ → List ℕ → Going → List ℕ → List ℕ → Type 0
StepAnswers most A op p' n p x es ms w cells trace (Halted h) cells' trace' = TurnHalts most op w trace h × (trace' ≡ trace)
StepAnswers most A op p' n p x es ms w cells trace Stuck cells' trace' = ⊥
StepAnswers most A op p' n p x es ms w cells trace (On v) cells' trace' = Passes most A op p' n p x es ms w cells trace v cells' trace'

-- ---- a turn

module _ (rules : List Rule) (T : Saturated) (most : ℕ) where
  -- what the guided run answers from here, the numbers of the steps taken being written
  abbrev pub report_from : Walk → List ℕ → List ℕ → Report
  report_from w cells trace = guided rules T most (length trace - w.steps) (take w.steps trace) (walk_in w cells)

  -- The walk goes on to v, with the same report.
  pub record TurnFollows (w : Walk) (cells trace : List ℕ) (v : Walk) (cells' trace' : List ℕ) : Type 0 where
    pub same_report : report_from w cells trace ≡ report_from v cells' trace'
    pub walking : Walking most v trace'
    pub long : length trace' ≡ length trace

  -- What a turn answers.
  abbrev pub TurnAnswers : Walk → List ℕ → List ℕ → Going → List ℕ → List ℕ → Type 0
  TurnAnswers w cells trace (Halted h) cells' trace' = (report_from w cells trace ≡ walked_by h (take w.steps trace)) × (trace' ≡ trace)
  TurnAnswers w cells trace Stuck cells' trace' = report_from w cells trace ≡ no_run
  TurnAnswers w cells trace (On v) cells' trace' = TurnFollows w cells trace v cells' trace' × (v.steps ≡ w.steps + 1)
