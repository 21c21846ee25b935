-- Moves and choices as the words of the code.
-- Assumes nothing.
pub mod Laws
pub mod Reading
pub mod Edges
use Rattle.std.specs.Prelude.{ℕ, ◌*◌, ◌≤◌, Bool, ◌&&◌, ◌≡◌, List, [], ◌∷◌, length, eqb}
use Rattle.std.proofs.Math.Option.{Option, map}
use Rattle.words.specs.Sets.{join, single, members}
use Rattle.automata.specs.Automaton.{Automaton, move_at, edge_at}
use Rattle.automata.specs.Derivation.{Result, Joins, join_move, named}
use Rattle.tables.specs.declared.Table.{Table}
use Rattle.tables.specs.Rows.{rows_in}
use Rattle.tables.specs.Layouts.{move_row}
use Rattle.first_reading.specs.First.{only_if}
use Rattle.first_reading.specs.Answer.{written_all, Answer, Answers}
use Rattle.first_reading.specs.Search.{wanted, Numbers, with_edge, first_reading, first_edges}
use Rattle.first_reading.specs.Search.Laws.{read_on}

-- An automaton of the first n moves alone: readings depend on nothing else.
abbrev pub moves_in : ℕ → List ℕ → Automaton
moves_in n words = record { J = 0; final1 = 0; final2 = 0; inner = []; entries = []; moves = rows_in move_row n words }

-- what reading on with move i for state q gives, the states qs being left
unfoldable pub tried : Automaton → ℕ → List ℕ → ℕ → List ℕ → Joins → ℕ → Option (List ℕ)
tried A a goal q qs j i = only_if (eqb (move_at A i).state q && eqb (move_at A i).symbol a)
    (map (λ ms. i ∷ ms) (read_on A a goal qs (join_move j (move_at A i))))

-- what going on with edge e for state q gives, the states qs being left
unfoldable pub followed : Automaton → ℕ → List ℕ → Joins → ℕ → ℕ → List ℕ → ℕ → ℕ → ℕ → Option Numbers
followed A a goal j S q qs names s e = only_if (eqb (edge_at A e).state q)
    (map (with_edge e) (first_edges A a goal j S qs (join names (single (edge_at A e).first)) (join s (edge_at A e).S)))

-- What is asked of the sizes of the tables.
pub record TablesFew (z : Table) : Type 0 where
  pub edges_few : z.edges ≤ 64
  pub moves_few : z.moves ≤ 1024

-- There is a word for the number of each state's edge, and one for the number of each state's move.
pub record WordsForEach (edges chosen : List ℕ) : Type 0 where
  pub word_for_each_edge : length edges ≡ 64
  pub word_for_each_move : length chosen ≡ 64

-- how the edges and the moves that are chosen are written: the edges for these states, the moves for those that the edges and `names` name
unfoldable pub writes_edges : List ℕ → Numbers → List ℕ → List ℕ
writes_edges qs n ws = written_all qs n.edges ws

unfoldable pub writes_moves : Automaton → ℕ → Numbers → List ℕ → List ℕ
writes_moves A names n ws = written_all (members (join names (named A n.edges))) n.moves ws

-- ---- what the searches are given, and what they answer

-- The moves are in their slice, and there is a word for the number of each state's move.
pub record ReadyToRead (n : ℕ) (moves chosen : List ℕ) : Type 0 where
  pub moves_lent : n * 5 ≤ length moves
  pub moves_few : n ≤ 1024
  pub word_for_each_move : length chosen ≡ 64

-- The search for a reading of a from the states qs answers t, and makes the words ms of ms₀.
abbrev pub FindsReading : Automaton → ℕ → Result → List ℕ → Joins → Bool → List ℕ → List ℕ → Type 0
FindsReading A a x qs j t ms₀ ms = Answer (first_reading A a (wanted x) qs j) (written_all qs) t ms₀ ms

-- The same with move i for state q, the states qs being left.
abbrev pub TriesMove : Automaton → ℕ → Result → ℕ → List ℕ → Joins → ℕ → Bool → List ℕ → List ℕ → Type 0
TriesMove A a x q qs j i t ms₀ ms = Answer (tried A a (wanted x) q qs j i) (written_all (q ∷ qs)) t ms₀ ms

-- The search for edges of the states qs, with a reading of a from the states that they and `names` name, answers t, and makes es of es₀ and
-- ms of ms₀.
abbrev pub FindsEdges : Automaton → ℕ → Result → Joins → List ℕ → ℕ → ℕ → Bool → List ℕ → List ℕ → List ℕ → List ℕ → Type 0
FindsEdges A a x j qs names s t es₀ es ms₀ ms = Answers (first_edges A a (wanted x) j x.S qs names s) (writes_edges qs) (writes_moves A names) t es₀ es ms₀ ms

-- The same with edge e for state q, the states qs being left.
abbrev pub FollowsEdge : Automaton → ℕ → Result → Joins → ℕ → List ℕ → ℕ → ℕ → ℕ → Bool → List ℕ → List ℕ → List ℕ → List ℕ → Type 0
FollowsEdge A a x j q qs names s e t es₀ es ms₀ ms =
    Answers (followed A a (wanted x) j x.S q qs names s e) (writes_edges (q ∷ qs)) (writes_moves A names) t es₀ es ms₀ ms
