-- The automaton: a plain record of lists, tied to no file.
-- Assumes nothing.
pub mod Laws
use Rattle.std.specs.Prelude.{ℕ, suc, ◌+◌, ◌-◌, Bool, true, false, ◌&&◌, List, [], ◌∷◌, ◌++◌, length, get_or, eqb, leb}
use Rattle.std.proofs.Math.Option.{Option, none, some}
use Rattle.std.proofs.Math.ListN.{get_elem?}
use Rattle.words.specs.Lists.{places}

-- "A *move* is (order-1 state r, symbol a, annotation order 0, 1 or 2, annotation set B, rest set R)": a transition of an order-1 state.
pub record Move : Type 0 where
  pub state : ℕ
  pub symbol : ℕ
  pub order : ℕ
  pub B : ℕ
  pub R : ℕ

-- An edge (r, S) of an order-2 state: a transition to order-1 state r, its `first`, and the set S of order-2 states.
pub record Edge : Type 0 where
  pub state : ℕ
  pub first : ℕ
  pub S : ℕ

-- "An entry [p,S] stands for one control p and one set S of order-2 states." It is an order-1 state and an edge of p.
pub record Entry : Type 0 where
  pub control : ℕ
  pub S : ℕ

-- Order-1 state n is inner for n below J, and the entry number n - J from there on. The inner edges of a state stand in the order of
-- least choice, by (r, S). The final sets are over all states, controls and entries included.
pub record Automaton : Type 0 where
  pub J : ℕ
  pub final1 : ℕ
  pub final2 : ℕ
  pub inner : List Edge
  pub entries : List Entry
  pub moves : List Move

abbrev pub no_move : Move
no_move = record { state = 0; symbol = 0; order = 0; B = 0; R = 0 }

abbrev pub no_edge : Edge
no_edge = record { state = 0; first = 0; S = 0 }

abbrev pub no_entry : Entry
no_entry = record { control = 0; S = 0 }

-- (state, order-1 state, S): the order of least choice among the edges of a state
unfoldable pub choice_key : Edge → List ℕ
choice_key e = e.state ∷ e.first ∷ e.S ∷ []

-- (p, S)
unfoldable pub entry_key : Entry → List ℕ
entry_key e = e.control ∷ e.S ∷ []

-- the entries as edges, the first being order-1 state r
unfoldable pub entry_edges : ℕ → List Entry → List Edge
entry_edges r [] = []
entry_edges r (e ∷ es) = record { state = e.control; first = r; S = e.S } ∷ entry_edges (suc r) es

module _ (A : Automaton) where
  -- All edges: the inner ones, then the entries. An edge's number is its place here, so of one state's edges the least number is
  -- the least (order-1 state, S).
  unfoldable pub edges : List Edge
  edges = A.inner ++ entry_edges A.J A.entries

  unfoldable pub edge_at : ℕ → Edge
  edge_at n = get_or edges n no_edge

  unfoldable pub move_at : ℕ → Move
  move_at n = get_or A.moves n no_move

  -- the numbers of the edges of order-2 state q
  unfoldable pub edges_of : ℕ → List ℕ
  edges_of q = places (λ e. eqb e.state q) edges

  -- the numbers of the moves of order-1 state r on symbol a
  unfoldable pub moves_of : ℕ → ℕ → List ℕ
  moves_of r a = places (λ m. eqb m.state r && eqb m.symbol a) A.moves

  -- the entry that order-1 state r is
  unfoldable pub entry_at : ℕ → Option Entry
  entry_at r = elim (leb A.J r) [ true ↦ get_elem? A.entries (r - A.J) | false ↦ none ]

  -- order-1 state r is an entry of control p
  unfoldable pub entry_of : ℕ → ℕ → Bool
  entry_of p r = elim (entry_at r) [ none ↦ false | some e ↦ eqb e.control p ]

  -- the control of the entry that order-1 state r is
  unfoldable pub entry_control : ℕ → ℕ
  entry_control r = elim (entry_at r) [ none ↦ 0 | some e ↦ e.control ]

  -- the set S of the entry that order-1 state r is
  unfoldable pub entry_set : ℕ → ℕ
  entry_set r = elim (entry_at r) [ none ↦ 0 | some e ↦ e.S ]

  -- the number of entry e as an edge
  unfoldable pub entry_edge : ℕ → ℕ
  entry_edge e = length A.inner + e
