-- Rules, configurations, one step and finite runs.
-- Assumes nothing.
use Rattle.std.specs.Prelude.{ℕ, true, false, ◌&&◌, ◌≡◌, List, [], ◌∷◌, eqb}
use Rattle.std.proofs.Math.Option.{Option, none, some}
use Rattle.std.proofs.Math.ListN.{get_elem?}
use Rattle.stacks.specs.Stack.{nil1, cons1, Stack2, nil2, cons2, Operation, after}

-- a control p and an order-2 stack
pub record Configuration : Type 0 where
  pub control : ℕ
  pub stack : Stack2

-- the rule (p, a, operation, b, p'); b is a part of the operation
pub record Rule : Type 0 where
  pub control : ℕ
  pub symbol : ℕ
  pub operation : Operation
  pub next : ℕ

-- control p' with the stack that an operation left
unfoldable pub entered : ℕ → Option Stack2 → Option Configuration
entered p' none = none
entered p' (some w) = some (record { control = p'; stack = w })

-- "A rule (p, a, operation, b, p') applies when the control is p and the top symbol a." "No rule applies to an empty stack or an empty top order-1 stack."
unfoldable pub step_on : Rule → ℕ → Stack2 → Option Configuration
step_on ρ p nil2 = none
step_on ρ p (cons2 nil1 t) = none
step_on ρ p (cons2 (cons1 a u s) t) = elim (eqb p ρ.control && eqb a ρ.symbol) [
  | true ↦ entered ρ.next (after ρ.operation a u s t)
  | false ↦ none
]

-- what the rule leaves of a configuration, where it applies
unfoldable pub step : Rule → Configuration → Option Configuration
step ρ c = step_on ρ c.control c.stack

-- A finite run by the rules of these numbers: each applies to the configuration that the one before it left.
pub data Run (rules : List Rule) : Configuration → List ℕ → Configuration → Type 0 where
  stay : {c : Configuration} → Run rules c [] c
  go : {c d e : Configuration} {n : ℕ} {ns : List ℕ} (ρ : Rule)
      → get_elem? rules n ≡ some ρ → step ρ c ≡ some d → Run rules d ns e → Run rules c (n ∷ ns) e
