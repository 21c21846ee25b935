-- A trace that is replayed: when it is a real fault, at which step it fails, and when it needs more cells than count.
-- Assumes nothing.
pub mod Laws
use Rattle.std.specs.Prelude.{ℕ, suc, ◌≤◌, ◌<◌, true, false, ◌≡◌, ◌⊎◌, List, length, take}
use Rattle.std.proofs.Math.Option.{some}
use Rattle.std.proofs.Math.ListN.{get_elem?}
use Rattle.stacks.specs.System.{Configuration, Rule, step, Run}
use Rattle.automata.specs.Acceptance.{in_target}
use Rattle.files.specs.Case.{own_of, rules_of}
use Rattle.files.specs.Start.{cells_of, configuration_at}
use Rattle.services.specs.Replay.{ReplayInput, rule_numbers, replay_cells}
use Rattle.demands.specs.FullRun.{used}

-- the rule numbers of the trace
abbrev pub trace_of : ReplayInput → List ℕ
trace_of x = rule_numbers x.trace

-- the start file's cells, and the new cells of the trace's first n steps
abbrev pub cells_used : ReplayInput → ℕ → ℕ
cells_used x n = used (rules_of x.case) (length (cells_of x.start)) (trace_of x) n

-- The trace's first n rules are a run of the case's rules from the start named to d, and its cells fit.
pub record RunsTo (x : ReplayInput) (n : ℕ) (d : Configuration) : Type 0 where
  pub steps_there : n ≤ length (trace_of x)
  pub run : Run (rules_of x.case) (configuration_at x.start x.number) (take n (trace_of x)) d
  pub cells_fit : cells_used x n ≤ replay_cells x

-- The trace's rule n, counted from 0, exists and applies to d.
pub record Applies (x : ReplayInput) (n : ℕ) (d : Configuration) : Type 0 where
  pub number : ℕ
  pub rule : Rule
  pub left : Configuration
  pub number_is : get_elem? (trace_of x) n ≡ some number
  pub rule_is : get_elem? (rules_of x.case) number ≡ some rule
  pub leaves : step rule d ≡ some left

-- "A trace whose rules all exist, apply one after another and end in the target, whoever made it", and "the replay has cells".
pub record RealFault (x : ReplayInput) : Type 0 where
  pub end : Configuration
  pub run : Run (rules_of x.case) (configuration_at x.start x.number) (trace_of x) end
  pub in_target_holds : in_target (own_of x.case) end ≡ true
  pub cells_suffice : cells_used x (length (trace_of x)) ≤ replay_cells x

-- "The first step that fails, counted from 0, or the trace's length in rule numbers if only the arrival is missing": n.
pub record StepFails (x : ReplayInput) (n : ℕ) : Type 0 where
  pub at : Configuration
  pub runs : RunsTo x n at
  pub fails : ((n < length (trace_of x)) × (Applies x n at → ⊥)) ⊎ ((n ≡ length (trace_of x)) × (in_target (own_of x.case) at ≡ false))

-- "At the step it has come to, if that does not fail": the trace's first rules are a run that fits, the next one applies and its cells do
-- not fit.
pub record StepShort (x : ReplayInput) : Type 0 where
  pub steps : ℕ
  pub at : Configuration
  pub runs : RunsTo x steps at
  pub applies : Applies x steps at
  pub short : replay_cells x < cells_used x (suc steps)

-- "The replay needs more cells than lent or than 4,096, for the start file or at the step it has come to."
abbrev pub CellsMissing : ReplayInput → Type 0
CellsMissing x = (replay_cells x < length (cells_of x.start)) ⊎ StepShort x
