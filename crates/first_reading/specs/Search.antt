-- The first reading, and the first choice of edges with a reading, that has the wanted joins: a nested search, in which joins are carried
-- along and no list of readings is made.
-- Assumes nothing.
pub mod Laws
pub mod Parts
use Rattle.std.specs.Prelude.{ℕ, ◌&&◌, List, [], ◌∷◌, eqb}
use Rattle.std.proofs.Math.Option.{Option, none, some, map}
use Rattle.words.specs.Sets.{join, single, members, part_of}
use Rattle.words.specs.Order.{same}
use Rattle.automata.specs.Automaton.{Automaton, move_at, edge_at, edges_of, moves_of}
use Rattle.automata.specs.Derivation.{Result, Joins, join_move}
use Rattle.first_reading.specs.First.{only_if, first_of}

-- (order, B, R)
unfoldable pub joins_key : Joins → List ℕ
joins_key j = j.order ∷ j.B ∷ j.R ∷ []

-- the joins of a result
unfoldable pub wanted : Result → List ℕ
wanted x = x.order ∷ x.B ∷ x.R ∷ []

-- the joins, where there are any and their sets are parts of those of x
unfoldable pub within : Result → Option Joins → Option Joins
within x none = none
within x (some k) = only_if (part_of k.B x.B && part_of k.R x.R) (some k)

-- the numbers of chosen edges and moves
pub record Numbers : Type 0 where
  pub edges : List ℕ
  pub moves : List ℕ

abbrev pub no_numbers : Numbers
no_numbers = record { edges = []; moves = [] }

abbrev pub only_moves : List ℕ → Numbers
only_moves ms = record { edges = []; moves = ms }

-- one edge more, before the others
abbrev pub with_edge : ℕ → Numbers → Numbers
with_edge e n = record { edges = e ∷ n.edges; moves = n.moves }

module _ (A : Automaton) (a : ℕ) (goal : List ℕ) where
  -- The first choice of a move on a for each of the states whose sets, joined to j, are those of the goal.
  unfoldable pub first_reading : List ℕ → Joins → Option (List ℕ)
  first_reading [] j = only_if (same (joins_key j) goal) (some [])
  first_reading (q ∷ qs) j = first_of (moves_of A q a) (λ i. map (λ ms. i ∷ ms)
      (elim (join_move j (move_at A i)) [ none ↦ none | some k ↦ first_reading qs k ]))

  -- The first choice of an edge for each of the states whose sets, joined to `sets`, are S, with the first reading from the states that
  -- these edges and `names` name.
  unfoldable pub first_edges : Joins → ℕ → List ℕ → ℕ → ℕ → Option Numbers
  first_edges j S [] names sets = only_if (eqb sets S) (map only_moves (first_reading (members names) j))
  first_edges j S (q ∷ qs) names sets = first_of (edges_of A q) (λ e. map (with_edge e)
      (first_edges j S qs (join names (single (edge_at A e).first)) (join sets (edge_at A e).S)))
