-- Derivations: the one list of all ways in which a rule gives a result, in the order of least choices. Rounds add its results, and the
-- guided run takes the first derivation of a move from it.
-- Assumes nothing.
pub mod Numbers
pub mod Joining
use Rattle.std.specs.Prelude.{ℕ, suc, ◌+◌, max, Bool, true, false, not, ◌&&◌, ◌||◌, List, [], ◌∷◌, ◌++◌, map, eqb}
use Rattle.std.proofs.Math.Option.{Option, none, some}
use Rattle.words.specs.Sets.{join, single, members}
use Rattle.words.specs.Lists.{each, when, first, places, choices}
use Rattle.words.specs.Order.{same}
use Rattle.stacks.specs.Stack.{Operation, rewrite, push1, push2, copy, pop1, pop2, collapse1, collapse2}
use Rattle.stacks.specs.System.{Rule}
use Rattle.automata.specs.Automaton.{Automaton, Move, move_at, edge_at, edges_of, moves_of, entry_of, entry_control, entry_set}

-- A result goes to symbol a of entry [p,S]: the move (a, order, B, R) of [p,S].
pub record Result : Type 0 where
  pub control : ℕ
  pub S : ℕ
  pub symbol : ℕ
  pub order : ℕ
  pub B : ℕ
  pub R : ℕ

-- (p, S, symbol, order, B, R), by which new moves are sorted
unfoldable pub result_key : Result → List ℕ
result_key x = x.control ∷ x.S ∷ x.symbol ∷ x.order ∷ x.B ∷ x.R ∷ []

-- A derivation with its result: the rule's number; its premise, a move number (codes 1 to 4), an entry number (5 and 7) or none;
-- the numbers of the edges chosen, by rising order-2 state; the numbers of the moves chosen, by rising order-1 state.
pub record Derivation : Type 0 where
  pub rule : ℕ
  pub premise : List ℕ
  pub edges : List ℕ
  pub moves : List ℕ
  pub result : Result

-- joined annotation sets, of one order, and joined rest sets
pub record Joins : Type 0 where
  pub order : ℕ
  pub B : ℕ
  pub R : ℕ

abbrev pub no_joins : Joins
no_joins = record { order = 0; B = 0; R = 0 }

abbrev pub joins_of : Move → Joins
joins_of m = record { order = m.order; B = m.B; R = m.R }

-- one order is 1 and the other 2
unfoldable pub clash : ℕ → ℕ → Bool
clash k l = not (eqb k 0) && not (eqb l 0) && not (eqb k l)

-- "Unions of annotation sets of orders 1 and 2 give no result." The empty set, of order 0, joins with either.
unfoldable pub join_move : Joins → Move → Option Joins
join_move j m = elim (clash j.order m.order) [
  | true ↦ none
  | false ↦ some (record { order = max j.order m.order; B = join j.B m.B; R = join j.R m.R })
]

-- "All annotation sets, rest sets .. are joined", beginning with j.
unfoldable pub join_moves : Joins → List Move → Option Joins
join_moves j [] = some j
join_moves j (m ∷ ms) = elim (join_move j m) [ none ↦ none | some k ↦ join_moves k ms ]

module _ (A : Automaton) where
  -- "*Reading a* from a set of order-1 states means one choice of a move on a for each state of the set": the lists of move numbers.
  unfoldable pub readings : ℕ → ℕ → List (List ℕ)
  readings a R = choices (map (λ r. moves_of A r a) (members R))

  -- "From a set of order-2 states it means one choice of edge for each": the lists of edge numbers.
  unfoldable pub edge_choices : ℕ → List (List ℕ)
  edge_choices S = choices (map (λ q. edges_of A q) (members S))

  -- the set of order-1 states that these edges name
  unfoldable pub named : List ℕ → ℕ
  named [] = 0
  named (e ∷ es) = join (single (edge_at A e).first) (named es)

  -- the join of these edges' sets
  unfoldable pub edge_sets : List ℕ → ℕ
  edge_sets [] = 0
  edge_sets (e ∷ es) = join (edge_at A e).S (edge_sets es)

  -- the moves of these numbers, joined to j
  unfoldable pub join_all : Joins → List ℕ → Option Joins
  join_all j ms = join_moves j (map (λ i. move_at A i) ms)

  -- the numbers of the moves on b of the entries of control p
  unfoldable pub control_moves : ℕ → ℕ → List ℕ
  control_moves p b = places (λ m. eqb m.symbol b && entry_of A p m.state) A.moves

  -- the numbers of the entries of control p
  unfoldable pub control_entries : ℕ → List ℕ
  control_entries p = places (λ e. eqb e.control p) A.entries

  module _ (n : ℕ) (ρ : Rule) where
    -- the derivation by rule n with result (joins), S, unless orders clash
    unfoldable pub conclude : List ℕ → List ℕ → List ℕ → ℕ → Option Joins → List Derivation
    conclude premise es ms S none = []
    conclude premise es ms S (some j) =
        record {
          rule = n;
          premise = premise;
          edges = es;
          moves = ms;
          result = record { control = ρ.control; S = S; symbol = ρ.symbol; order = j.order; B = j.B; R = j.R };
        } ∷ []

    -- "each move (b, B, R) of [p',S] gives (B, R), S"
    unfoldable pub by_rewrite : ℕ → List Derivation
    by_rewrite b = each (control_moves ρ.next b) (λ i.
        conclude (i ∷ []) [] [] (entry_set A (move_at A i).state) (some (joins_of (move_at A i))))

    -- "each move (b, B, R) of [p',S], B empty or of the push's order, and each reading of a from R as (B', R'): at order 1
    -- (B', R' with B), S"
    unfoldable pub by_push1 : ℕ → List Derivation
    by_push1 b = each (control_moves ρ.next b) (λ i.
        when (eqb (move_at A i).order 0 || eqb (move_at A i).order 1)
        (each (readings ρ.symbol (move_at A i).R) (λ ms.
        conclude (i ∷ []) [] ms (entry_set A (move_at A i).state)
        (join_all (record { order = 0; B = 0; R = (move_at A i).B }) ms))))

    -- "at order 2 (B', R'), S with B"
    unfoldable pub by_push2 : ℕ → List Derivation
    by_push2 b = each (control_moves ρ.next b) (λ i.
        when (eqb (move_at A i).order 0 || eqb (move_at A i).order 2)
        (each (readings ρ.symbol (move_at A i).R) (λ ms.
        conclude (i ∷ []) [] ms (join (entry_set A (move_at A i).state) (move_at A i).B) (join_all no_joins ms))))

    -- "each move (a, B, R) of [p',S], each reading of a from S as (B', R', S'): (B with B', R with R'), S'"
    unfoldable pub by_copy : List Derivation
    by_copy = each (control_moves ρ.next ρ.symbol) (λ i.
        each (edge_choices (entry_set A (move_at A i).state)) (λ es.
        each (readings ρ.symbol (named es)) (λ ms.
        conclude (i ∷ []) es ms (edge_sets es) (join_all (joins_of (move_at A i)) ms))))

    -- "each entry [p',S]: (empty, {[p',S]}), S"
    unfoldable pub by_pop1 : List Derivation
    by_pop1 = each (control_entries ρ.next) (λ e.
        conclude (e ∷ []) [] [] (entry_set A (A.J + e)) (some (record { order = 0; B = 0; R = single (A.J + e) })))

    -- "(empty, empty), {p'}"
    unfoldable pub by_pop2 : List Derivation
    by_pop2 = conclude [] [] [] (single ρ.next) (some no_joins)

    -- "each entry [p',S]: (order 1 {[p',S]}, empty), S"
    unfoldable pub by_collapse1 : List Derivation
    by_collapse1 = each (control_entries ρ.next) (λ e.
        conclude (e ∷ []) [] [] (entry_set A (A.J + e)) (some (record { order = 1; B = single (A.J + e); R = 0 })))

    -- "(order 2 {p'}, empty), empty set"
    unfoldable pub by_collapse2 : List Derivation
    by_collapse2 = conclude [] [] [] 0 (some (record { order = 2; B = single ρ.next; R = 0 }))

    unfoldable pub derivations_by : Operation → List Derivation
    derivations_by (rewrite b) = by_rewrite b
    derivations_by (push1 b) = by_push1 b
    derivations_by (push2 b) = by_push2 b
    derivations_by copy = by_copy
    derivations_by pop1 = by_pop1
    derivations_by pop2 = by_pop2
    derivations_by collapse1 = by_collapse1
    derivations_by collapse2 = by_collapse2

  -- the derivations by these rules, the first of which has number n
  unfoldable pub derivations_from : ℕ → List Rule → List Derivation
  derivations_from n [] = []
  derivations_from n (ρ ∷ rules) = derivations_by n ρ ρ.operation ++ derivations_from (suc n) rules

  -- all derivations from the automaton: least rule first, then least choices
  unfoldable pub derivations : List Rule → List Derivation
  derivations rules = derivations_from 0 rules

  -- the result that a move of an entry stands for
  unfoldable pub result_of : Move → Result
  result_of m =
      record {
        control = entry_control A m.state;
        S = entry_set A m.state;
        symbol = m.symbol;
        order = m.order;
        B = m.B;
        R = m.R;
      }

-- The first derivation of a result from the automaton.
unfoldable pub first_derivation : Automaton → List Rule → Result → Option Derivation
first_derivation A rules x = first (λ d. same (result_key d.result) (result_key x)) (derivations A rules)
