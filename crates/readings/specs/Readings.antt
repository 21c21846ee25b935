-- Readings by recursion over the states that are still to be read, with the joins so far carried along. Readings/Laws shows that they are
-- the readings of the definition, in the same order.
-- Assumes nothing.
pub mod Laws
pub mod Order
pub mod Earlier
pub mod Inner
use Rattle.std.specs.Prelude.{ℕ, ◌≡◌, List, [], ◌∷◌}
use Rattle.std.proofs.Math.Option.{Option, none, some}
use Rattle.words.specs.Sets.{join, single, members}
use Rattle.words.specs.Lists.{each}
use Rattle.automata.specs.Automaton.{Automaton, move_at, edge_at, moves_of, edges_of}
use Rattle.automata.specs.Derivation.{Result, Joins, join_move}
use Rattle.tables.specs.declared.Result.{Result as ResultWords}
use Rattle.readings.specs.declared.Goal.{Goal}

-- the result (joins) to symbol a of entry [p,S]
abbrev pub result_to : ℕ → ℕ → ℕ → Joins → Result
result_to p a S j = record { control = p; S = S; symbol = a; order = j.order; B = j.B; R = j.R }

-- the same in the code
abbrev pub the_result : ℕ → ℕ → ℕ → ℕ → ℕ → ℕ → ResultWords
the_result p S a order B R = record { control = p; s = S; symbol = a; order = order; b = B; r = R }

-- what is made of the joins, and nothing where orders clash
unfoldable pub from_joins : {X : Type 0} → Option Joins → (Joins → List X) → List X
from_joins none f = []
from_joins (some j) f = f j

module _ (A : Automaton) (p a : ℕ) where
  -- The results to [p,S] of the readings of a from these order-1 states: one for each choice of moves, joined to j.
  unfoldable pub read_results : ℕ → List ℕ → Joins → List Result
  read_results S [] j = result_to p a S j ∷ []
  read_results S (r ∷ rs) j = each (moves_of A r a) (λ i. from_joins (join_move j (move_at A i)) (λ k. read_results S rs k))

  -- The results of the readings of a from these order-2 states: for each choice of edges, of the order-1 states that they name, joined to
  -- N, into the join of their sets with S.
  unfoldable pub edge_results : Joins → List ℕ → ℕ → ℕ → List Result
  edge_results j [] N S = read_results S (members N) j
  edge_results j (q ∷ qs) N S =
      each (edges_of A q) (λ e. edge_results j qs (join N (single (edge_at A e).first)) (join S (edge_at A e).S))

-- ---- in the code

-- the results of readings, to the goal's symbol of its entry with the set S
abbrev pub reads_to : Goal → ℕ → List ℕ → Joins → Automaton → List Result
reads_to to S rs j A = read_results A to.control to.symbol S rs j

abbrev pub edges_to : Goal → ℕ → Joins → List ℕ → ℕ → Automaton → List Result
edges_to to S j qs N A = edge_results A to.control to.symbol j qs N S

-- What is given depends on the moves alone.
abbrev pub ByMoves : (Automaton → List Result) → Type 0
ByMoves gives = (A B : Automaton) → A.moves ≡ B.moves → gives A ≡ gives B
