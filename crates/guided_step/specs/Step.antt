-- One step of the guided run as the code answers it: arrived, stuck, or the top with the numbers of a rule and a premise, while two slices
-- hold the numbers of the edges and moves that the derivation chooses.
-- Assumes nothing.
pub mod Laws
pub mod Chosen
use Rattle.std.specs.Prelude.{ℕ, ◌<◌, ◌≡◌, List, Option as Found}
use Rattle.std.proofs.Math.Option.{some}
use Rattle.std.proofs.Math.ListN.{get_elem?}
use Rattle.stacks.specs.Stack.{Operation}
use Rattle.stacks.specs.System.{Rule}
use Rattle.automata.specs.Automaton.{Automaton, move_at}
use Rattle.automata.specs.Derivation.{Derivation, result_of}
use Rattle.automata.specs.Saturation.{Saturated, before}
use Rattle.walks.specs.Guide as walks
use Rattle.cell_steps.specs.declared.Top.{Top}
use Rattle.cell_steps.specs.Steps.Choices.{top_state, root_edge, HoldsNumbers}
use Rattle.first_derivation.specs.declared.Derivation.{Derivation as DerivationWords}
use Rattle.first_derivation.specs.Derived.{FindsFirst}
use Rattle.guided_step.specs.declared.Next.{Next}
use Rattle.guided_step.specs.declared.Next.TheVariants.{Arrived, Stuck, To}
use Rattle.guided_step.specs.Walks.{top_by}

-- The first derivation is found of the result that move i stands for, from the table before the move's round.
abbrev pub FindsBefore : List Rule → Saturated → ℕ → Found DerivationWords → List ℕ → List ℕ → List ℕ → List ℕ → Type 0
FindsBefore rules T i r es₀ es ms₀ ms = FindsFirst (before T i) rules (result_of T.table (move_at T.table i)) r es₀ es ms₀ ms

-- What is written into cells for premise p is small: the state that chooses it, its number, and the edge that the new root chooses.
pub record StepSmall (A : Automaton) (op : Operation) (p : ℕ) : Type 0 where
  pub state_small : top_state A op p < 64
  pub premise_small : p < 1024
  pub edge_small : root_edge A op p < 128

-- A step is taken by rule n from premise p: the walk after it, where the words es and ms hold the choices of its new cells.
pub record Taken (rules : List Rule) (T : Saturated) (w : walks.Walk) (o : walks.Next) (x : Top) (n p : ℕ) (es ms : List ℕ) : Type 0 where
  pub derivation : Derivation
  pub rule : Rule
  pub move : ℕ
  pub goes : o ≡ walks.to n (walks.moved rules T w (top_by x move) derivation rule)
  pub numbered : get_elem? rules n ≡ some rule
  pub premise_is : p ≡ walks.first_or_zero derivation.premise
  pub holds : HoldsNumbers T.table derivation rule.operation es ms
  pub small : StepSmall T.table rule.operation p

-- what the answer says of the step o of a walk
abbrev pub Gives : List Rule → Saturated → walks.Walk → walks.Next → Next → List ℕ → List ℕ → Type 0
Gives rules T w o Arrived es ms = o ≡ walks.arrived
Gives rules T w o Stuck es ms = o ≡ walks.stuck
Gives rules T w o (To x n p) es ms = Taken rules T w o x n p es ms

-- The answer for the chosen move i at the top x, of every walk.
pub record AtTop (rules : List Rule) (T : Saturated) (x : Top) (i : ℕ) (r : Next) (es ms : List ℕ) : Type 0 where
  pub gives : (w : walks.Walk) → Gives rules T w (walks.at_top rules T w (some (top_by x i))) r es ms

-- The answer for a walk.
pub record NextIs (rules : List Rule) (T : Saturated) (w : walks.Walk) (r : Next) (es ms : List ℕ) : Type 0 where
  pub gives : Gives rules T w (walks.next rules T w) r es ms
