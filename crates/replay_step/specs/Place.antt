-- Where a replay stands in lent bytes, and what a step answers.
-- Assumes nothing.
pub mod Laws
use Rattle.std.specs.Prelude.{ℕ, Result, Ok, Err, ◌+◌, ◌*◌, ◌<◌, ◌≤◌, ◌≡◌, List, ◌++◌, length}
use Rattle.std.proofs.Math.Option.{none, some}
use Rattle.stacks.specs.Stack.{Operation, new_cells}
use Rattle.stacks.specs.System.{Configuration, Rule, step}
use Rattle.walks.specs.Cell.{order2, stack_at, stacks, cells_after, root_after}
use Rattle.walks.specs.Cell.Formed.{Formed, order_at}
use Rattle.services.specs.Replay.{Taken, taken}
use Rattle.cell_steps.specs.declared.Top.{Top}
use Rattle.start_records.specs.Body.{cells_in}
use Rattle.replay_step.specs.declared.Place.{Place}
use Rattle.replay_step.specs.declared.Stop.{Stop}
use Rattle.replay_step.specs.declared.Stop.TheVariants.{Fails, Short}

-- the configuration of a place: its control with the stack that its root cell stands for
abbrev pub place_configuration : Place → List ℕ → Configuration
place_configuration w bytes = record { control = w.control; stack = order2 (stack_at (stacks (cells_in w.cells bytes)) w.root) }

-- The cells of the place are in the bytes and refer to lower ones of the right order, and its root is one of them, of order 2.
pub record PlaceStands (w : Place) (bytes : List ℕ) : Type 0 where
  pub cells_there : w.cells * 6 ≤ length bytes
  pub formed : Formed (cells_in w.cells bytes)
  pub root_exists : w.root < w.cells
  pub root_order : order_at (cells_in w.cells bytes) w.root ≡ 2
  pub control_small : w.control < 64

-- The place after the operation on top x, to control p': the new cells follow those before.
pub record Moved (op : Operation) (p' : ℕ) (x : Top) (w : Place) (bytes : List ℕ) (v : Place) (bytes' : List ℕ) : Type 0 where
  pub control_is : v.control ≡ p'
  pub root_is : v.root ≡ root_after op w.cells x.annotation x.below
  pub cells_are : v.cells ≡ w.cells + new_cells op
  pub added : cells_in v.cells bytes'
      ≡ cells_in w.cells bytes ++ cells_after op w.cells x.symbol x.annotation x.rest x.below

-- ---- by one rule, with at most so many cells

-- It applies, and its new cells do not fit.
pub record RuleShort (ρ : Rule) (most : ℕ) (w : Place) (bytes : List ℕ) : Type 0 where
  pub left : Configuration
  pub applies : step ρ (place_configuration w bytes) ≡ some left
  pub lacks : most < w.cells + new_cells ρ.operation

-- It applies, and leaves the configuration of place v.
pub record RuleGoes (ρ : Rule) (most : ℕ) (w : Place) (bytes : List ℕ) (v : Place) (bytes' : List ℕ) : Type 0 where
  pub applies : step ρ (place_configuration w bytes) ≡ some (place_configuration v bytes')
  pub cells_are : v.cells ≡ w.cells + new_cells ρ.operation
  pub within : v.cells ≤ most
  pub stands : PlaceStands v bytes'

abbrev pub RuleAnswers : Rule → ℕ → Place → List ℕ → Result Place Stop → List ℕ → Type 0
RuleAnswers ρ most w bytes (Err Fails) bytes' = step ρ (place_configuration w bytes) ≡ none
RuleAnswers ρ most w bytes (Err Short) bytes' = RuleShort ρ most w bytes
RuleAnswers ρ most w bytes (Ok v) bytes' = RuleGoes ρ most w bytes v bytes'

-- ---- by the rule of a number

pub record StepLacks (rules : List Rule) (most k : ℕ) (w : Place) (bytes : List ℕ) : Type 0 where
  pub step_is : Taken
  pub applies : taken rules k (place_configuration w bytes) ≡ some step_is
  pub lacks : most < w.cells + step_is.cells

pub record StepGoes (rules : List Rule) (most k : ℕ) (w : Place) (bytes : List ℕ) (v : Place) (bytes' : List ℕ) : Type 0 where
  pub more : ℕ
  pub applies : taken rules k (place_configuration w bytes) ≡ some (record { to = place_configuration v bytes'; cells = more })
  pub cells_are : v.cells ≡ w.cells + more
  pub within : v.cells ≤ most
  pub stands : PlaceStands v bytes'

abbrev pub StepAnswers : List Rule → ℕ → ℕ → Place → List ℕ → Result Place Stop → List ℕ → Type 0
StepAnswers rules most k w bytes (Err Fails) bytes' = taken rules k (place_configuration w bytes) ≡ none
StepAnswers rules most k w bytes (Err Short) bytes' = StepLacks rules most k w bytes
StepAnswers rules most k w bytes (Ok v) bytes' = StepGoes rules most k w bytes v bytes'
