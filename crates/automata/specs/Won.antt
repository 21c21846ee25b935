-- In which round a stack is won: "Accepting a stack from a state shall report the least round whose table already accepts it."
-- Assumes nothing.
pub mod Laws
use Rattle.std.specs.Prelude.{ℕ, zero, suc, Bool, true, false, List}
use Rattle.stacks.specs.Stack.{Stack1, Stack2}
use Rattle.stacks.specs.System.{Rule}
use Rattle.replies.specs.declared.Acceptance.{Acceptance}
use Rattle.replies.specs.declared.Acceptance.TheVariants.{Never, Since}
use Rattle.automata.specs.Automaton.{Automaton}
use Rattle.automata.specs.Acceptance.{accepts1, accepts2}
use Rattle.automata.specs.Saturation.{table_after}

-- the least of the k numbers from n on that passes the test, or that none does
unfoldable pub least_from : (ℕ → Bool) → ℕ → ℕ → Acceptance
least_from test n zero = Never
least_from test n (suc k) = elim (test n) [ true ↦ Since n | false ↦ least_from test (suc n) k ]

module _ (rules : List Rule) (own : Automaton) (rounds : ℕ) where
  -- the least n, up to so many rounds, for which the table after n rounds accepts the order-1 stack from order-1 state r
  unfoldable pub won1 : Stack1 → ℕ → Acceptance
  won1 s r = least_from (λ n. accepts1 (table_after rules own n) s r) 0 (suc rounds)

  -- the same for an order-2 stack and order-2 state q
  unfoldable pub won2 : Stack2 → ℕ → Acceptance
  won2 t q = least_from (λ n. accepts2 (table_after rules own n) t q) 0 (suc rounds)
