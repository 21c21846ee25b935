-- The saturated table as document 01 defines it: "The least closed set is the *saturated table*."
-- Assumes nothing.
pub mod Laws
use Rattle.std.specs.Prelude.{ℕ, ◌<◌, ◌≡◌, List, length}
use Rattle.stacks.specs.System.{Rule}
use Rattle.automata.specs.Automaton.{Automaton, move_at}
use Rattle.automata.specs.Facts.{Once, Closed}
use Rattle.rounds.specs.Contains.{Contains}

-- each move is there once
abbrev pub MovesOnce : Automaton → Type 0
MovesOnce A = (i j : ℕ) → i < length A.moves → j < length A.moves → move_at A i ≡ move_at A j → i ≡ j

-- A contains `own`, has each entry and each move once, holds every result of the rules from it, and every automaton that contains `own`
-- and holds every result contains A.
pub record LeastClosed (rules : List Rule) (own A : Automaton) : Type 0 where
  pub contains_own : Contains own A
  pub entries_once : Once A.entries
  pub moves_once : MovesOnce A
  pub closed : Closed rules A
  pub least : (C : Automaton) → Contains own C → Once C.entries → Closed rules C → Contains A C
