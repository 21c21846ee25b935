-- One step back: where a rule's operation leaves a stack that p' accepts, there is a derivation by the rule whose result accepts the stack
-- before it, for each of the eight operations.
-- Assumes nothing.
use Rattle.std.specs.Prelude.{ℕ}
use Rattle.std.proofs.Math.Option.{Option, none, some}
use Rattle.stacks.specs.Stack.{Stack2}
use Rattle.automata.specs.Automaton.{Automaton}
use Rattle.automata.proofs.Acceptance.Laws.{Accepts2}

-- the operation left a stack that control p accepts
abbrev pub LeavesAccepted : Automaton → ℕ → Option Stack2 → Type 0
LeavesAccepted A p none = ⊥
LeavesAccepted A p (some w) = Accepts2 A w p
