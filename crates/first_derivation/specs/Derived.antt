-- The first derivation as the code answers it: the numbers of its rule and its premise, with the edges and moves chosen in two slices.
-- Assumes nothing.
pub mod Laws
pub mod Small
pub mod Choices
use Rattle.std.specs.Prelude.{ℕ, ◌<◌, ◌^◌, ◌≡◌, List, get_or, None, Some, Option as Found}
use Rattle.std.proofs.Math.Option.{Option, none, some, map}
use Rattle.std.proofs.Math.ListN.{get_elem?}
use Rattle.stacks.specs.Stack.{Operation, pop2}
use Rattle.stacks.specs.System.{Rule}
use Rattle.automata.specs.Automaton.{Automaton, move_at, edge_at, entry_set}
use Rattle.automata.specs.Derivation.{Result, Derivation, first_derivation}
use Rattle.walks.specs.Guide.{first_or_zero}
use Rattle.results.specs.Collecting.{rule_in}
use Rattle.first_reading.specs.First.{is_some}
use Rattle.first_reading.specs.Answer.{written_all, Answers}
use Rattle.first_derivation.specs.declared.Derivation.{Derivation as DerivationWords}
use Rattle.first_derivation.specs.Search.{derived, by_rule}
use Rattle.first_derivation.specs.Premises.{edge_states, read_states}

-- the operation of rule n
unfoldable pub operation_by : List Rule → ℕ → Operation
operation_by rules n = elim (get_elem? rules n) [ none ↦ pop2 | some ρ ↦ ρ.operation ]

-- how the edges and the moves of a derivation are written
unfoldable pub derivation_edges : Automaton → List Rule → Derivation → List ℕ → List ℕ
derivation_edges A rules d ws = written_all (edge_states A (operation_by rules d.rule) (first_or_zero d.premise)) d.edges ws

unfoldable pub derivation_moves : Automaton → List Rule → Derivation → List ℕ → List ℕ
derivation_moves A rules d ws = written_all (read_states A (operation_by rules d.rule) (first_or_zero d.premise) d.edges) d.moves ws

-- the numbers of a rule and of a premise (0 where there is none)
pub record StepNumbers : Type 0 where
  pub rule : ℕ
  pub premise : ℕ

abbrev pub found_in : Found DerivationWords → Option StepNumbers
found_in None = none
found_in (Some d) = some (record { rule = d.rule; premise = d.premise })

abbrev pub step_of : Derivation → StepNumbers
step_of d = record { rule = d.rule; premise = first_or_zero d.premise }

-- The search for the first derivation of x answers r, and writes what it chose.
pub record FindsFirst (A : Automaton) (rules : List Rule) (x : Result) (r : Found DerivationWords) (es₀ es ms₀ ms : List ℕ) : Type 0 where
  pub numbers : found_in r ≡ map step_of (first_derivation A rules x)
  pub written : Answers (first_derivation A rules x) (derivation_edges A rules) (derivation_moves A rules) (is_some (found_in r)) es₀ es ms₀ ms

-- The sets whose members are the states of choices are words of 64 bits, and the order-1 states that edges name are below 64.
pub record StatesSmall (A : Automaton) : Type 0 where
  pub rests_small : (i : ℕ) → (move_at A i).R < 2 ^ 64
  pub sets_small : (r : ℕ) → entry_set A r < 2 ^ 64
  pub firsts_small : (e : ℕ) → (edge_at A e).first < 64

-- Words of 64 bits.
pub record WordsFit (words : List ℕ) : Type 0 where
  pub fits : (j : ℕ) → get_or words j 0 < 2 ^ 64

-- what rule n of a body gives
unfoldable pub rule_gives : Automaton → Result → List ℕ → ℕ → Option Derivation
rule_gives A x body n = map (derived n x) (by_rule A x (rule_in body n))
