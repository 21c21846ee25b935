-- Whether the states left can still reach the joins wanted: what their moves on a reach together, each joined to j on its own.
-- Assumes nothing.
use Rattle.std.specs.Prelude.{ℕ, Bool, true, false, ◌&&◌, List, [], ◌∷◌}
use Rattle.words.specs.Sets.{member, single, join, part_of}
use Rattle.automata.specs.Automaton.{Automaton, Move}
use Rattle.automata.specs.Derivation.{Result, Joins}
use Rattle.joins.specs.Joining.{candidate_of}
use Rattle.first_reading.specs.declared.Reach.{Reach}
use Rattle.first_reading.specs.First.{is_some}
use Rattle.first_reading.specs.Search.{within}

-- what j reaches without a move
abbrev pub reach_of : Joins → Reach
reach_of j = record { states = 0; b = j.B; r = j.R }

-- a move more
abbrev pub reach_by : Reach → Move → Reach
reach_by z m = record { states = join z.states (single m.state); b = join z.b m.B; r = join z.r m.R }

module _ (a : ℕ) (x : Result) (left : ℕ) (j : Joins) where
  -- m is a move on a of a state left, and joins to j within the sets of x
  unfoldable pub usable : Move → Bool
  usable m = member left m.state && is_some (within x (candidate_of m.state a j m))

  -- a move more, where it is usable
  unfoldable pub reach_with : Reach → Move → Reach
  reach_with z m = elim (usable m) [ true ↦ reach_by z m | false ↦ z ]

  -- what the moves reach, from z on
  unfoldable pub reach_all : Reach → List Move → Reach
  reach_all z [] = z
  reach_all z (m ∷ ms) = reach_all (reach_with z m) ms

-- every state left is reached, and the sets of x are filled
unfoldable pub fills : Result → ℕ → Reach → Bool
fills x left z = part_of left z.states && part_of x.B z.b && part_of x.R z.r

-- Each state left has a usable move, and the sets of these moves, joined to j, fill those of x.
unfoldable pub can_fill : Automaton → ℕ → Result → ℕ → Joins → Bool
can_fill A a x left j = fills x left (reach_all a x left j (reach_of j) A.moves)
