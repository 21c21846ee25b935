-- What the soundness of a saturated table rests on.
-- Assumes nothing.
use Rattle.std.specs.Prelude.{ℕ, ◌≤◌, ◌<◌, ◌≡◌, length}
use Rattle.std.proofs.Math.Option.{some}
use mathlib.Core.List.{List, Memᴰ}
use Rattle.stacks.specs.System.{Rule}
use Rattle.automata.specs.Automaton.{Automaton, move_at}
use Rattle.automata.specs.Derivation.{Derivation, result_of, first_derivation}
use Rattle.automata.specs.Saturation.{Saturated, before, own_moves}
use Rattle.automata.specs.Facts.{RuleFacts, TableFacts, OwnFacts, Extends}

-- Of a table T that rounds by the rules made of an own automaton, where there are P controls. It need not be closed: it is enough that
-- each move past round 0 is a move of an entry and has a derivation from the rounds before its own.
pub record SaturatedFacts (P : ℕ) (own : Automaton) (rules : List Rule) (T : Saturated) : Type 0 where
  pub own_table : TableFacts P own
  pub own_inner : OwnFacts P own
  pub table : TableFacts P T.table
  pub extends : Extends own T.table
  pub rule_facts : (ρ : Rule) → Memᴰ ρ rules → RuleFacts P ρ
  pub own_moves_holds : own_moves T.sizes ≡ length own.moves
  pub later_entry : (i : ℕ) → length own.moves ≤ i → i < length T.table.moves → T.table.J ≤ (move_at T.table i).state
  pub derived : (i : ℕ) → length own.moves ≤ i → i < length T.table.moves
      → (d : Derivation) × (first_derivation (before T i) rules (result_of T.table (move_at T.table i)) ≡ some d)
