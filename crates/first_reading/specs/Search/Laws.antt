-- The nested search finds the first reading of the list, and the first choice of edges.
-- Assumes nothing.
use Rattle.std.specs.Prelude.{ℕ, Bool, false, ◌&&◌, ◌≡◌, eqb}
use Rattle.std.proofs.Math.Path.{refl, ap, ap₂, sym}
use Rattle.std.proofs.Common.{◌∙◌}
use Rattle.std.proofs.Math.Option
use Rattle.std.proofs.Math.Option.{Option, none, some, map-map}
use mathlib.Core.List.{List, [], ◌∷◌, map}
use Rattle.words.specs.Sets.{join, single, members}
use Rattle.words.proofs.Sets.Laws.{join_assoc, join_empty_right}
use Rattle.words.specs.Lists.{first, choices}
use Rattle.words.specs.Lists.Laws.{none_first}
use Rattle.words.specs.Laws.Tests.{by_test}
use Rattle.words.specs.Order.{same}
use Rattle.automata.specs.Automaton.{Automaton, move_at, edge_at, edges_of, moves_of}
use Rattle.automata.specs.Derivation.{Joins, join_move, join_moves, join_all, named, edge_sets}
use Rattle.first_reading.specs.First.{or_else, only_if, first_of}
use Rattle.first_reading.specs.First.Laws.{or_else_none, first_one, map_only_if, first_of_same, first_each, first_map, first_same, map_first_of, first_of_map, first_of_each}
use Rattle.first_reading.specs.Search.{joins_key, Numbers, only_moves, with_edge, first_reading, first_edges}

-- ---- readings

pub same_cons : (k l : ℕ) (ks ls : List ℕ) → same (k ∷ ks) (l ∷ ls) ≡ eqb k l && same ks ls
unfolding same
same_cons k l ks ls = by_test (eqb k l) (λ e. rw (same, e)) (λ e. rw (same, e))

-- joins, where there are any, are those of the goal
unfoldable pub reached : List ℕ → Option Joins → Bool
reached goal none = false
reached goal (some j) = same (joins_key j) goal

module _ (A : Automaton) (a : ℕ) (goal : List ℕ) where
  -- the reading goes on from the joins of one move more
  unfoldable pub read_on : List ℕ → Option Joins → Option (List ℕ)
  read_on qs none = none
  read_on qs (some k) = first_reading A a goal qs k

  pub first_reading_cons : (q : ℕ) (qs : List ℕ) (j : Joins)
      → first_reading A a goal (q ∷ qs) j ≡ first_of (moves_of A q a) (λ i. Option.map (λ ms. i ∷ ms) (read_on qs (join_move j (move_at A i))))
  unfolding first_reading read_on
  first_reading_cons q qs j = first_of_same (moves_of A q a) _ _ λ i. go i (join_move j (move_at A i))
    where
      go : (i : ℕ) (o : Option Joins) → Option.map (λ ms. i ∷ ms) (elim o as (λ z. Option (List ℕ)) [ none ↦ none | some k ↦ first_reading A a goal qs k ]) ≡ Option.map (λ ms. i ∷ ms) (read_on qs o)
      go i none = refl
      go i (some k) = refl

  -- the joins go on with the moves that follow
  unfoldable pub join_on : Option Joins → List ℕ → Option Joins
  join_on none ms = none
  join_on (some k) ms = join_all A k ms

  join_all_cons : (j : Joins) (i : ℕ) (ms : List ℕ) → join_all A j (i ∷ ms) ≡ join_on (join_move j (move_at A i)) ms
  unfolding join_all join_moves join_on
  join_all_cons j i ms = go (join_move j (move_at A i))
    where
      go : (o : Option Joins) → elim o as (λ z. Option Joins) [ none ↦ none | some k ↦ join_moves k (map (λ n. move_at A n) ms) ] ≡ join_on o ms
      go none = refl
      go (some k) = refl

  pub reading_first : (qs : List ℕ) (j : Joins)
      → first (λ ms. reached goal (join_all A j ms)) (choices (map (λ r. moves_of A r a) qs)) ≡ first_reading A a goal qs j
  unfolding choices first_reading join_all join_moves reached first only_if join_on read_on
  reading_first [] j = first_one (λ ms. reached goal (join_all A j ms)) []
  reading_first (q ∷ qs) j =
      first_each (λ ms. reached goal (join_all A j ms)) (moves_of A q a) (λ i. map (λ ms. i ∷ ms) (choices (map (λ r. moves_of A r a) qs)))
      ∙ first_of_same (moves_of A q a) _ _ (λ i.
      first_map (λ ms. reached goal (join_all A j ms)) (λ ms. i ∷ ms) (choices (map (λ r. moves_of A r a) qs))
      ∙ ap (Option.map (λ ms. i ∷ ms)) (
      first_same (λ ms. reached goal (join_all A j (i ∷ ms))) (λ ms. reached goal (join_on (join_move j (move_at A i)) ms)) (choices (map (λ r. moves_of A r a) qs))
      (λ ms. ap (reached goal) (join_all_cons j i ms))
      ∙ go (λ k. reading_first qs k) (join_move j (move_at A i))))
      ∙ sym (first_reading_cons q qs j)
    where
      go : ((k : Joins) → first (λ ms. reached goal (join_all A k ms)) (choices (map (λ r. moves_of A r a) qs)) ≡ first_reading A a goal qs k)
          → (o : Option Joins) → first (λ ms. reached goal (join_on o ms)) (choices (map (λ r. moves_of A r a) qs)) ≡ read_on qs o
      go below none = none_first (λ ms. false) (choices (map (λ r. moves_of A r a) qs)) (λ ms i. refl)
      go below (some k) = below k

  -- ---- edges

  -- what is left where all edges are chosen
  unfoldable pub at_edges : Joins → ℕ → ℕ → ℕ → List ℕ → Option Numbers
  at_edges j S names sets es = only_if (eqb (join sets (edge_sets A es)) S)
      (Option.map (λ ms. record { edges = es; moves = ms }) (first_reading A a goal (members (join names (named A es))) j))

  pub edges_first : (j : Joins) (S : ℕ) (qs : List ℕ) (names sets : ℕ)
      → first_of (choices (map (λ q. edges_of A q) qs)) (at_edges j S names sets) ≡ first_edges A a goal j S qs names sets
  unfolding choices first_edges first_of or_else at_edges named edge_sets
  edges_first j S [] names sets =
      or_else_none (at_edges j S names sets [])
      ∙ ap₂ (λ (s n : ℕ). only_if (eqb s S) (Option.map only_moves (first_reading A a goal (members n) j))) (join_empty_right sets) (join_empty_right names)
  edges_first j S (q ∷ qs) names sets =
      first_of_each (edges_of A q) (λ e. map (λ es. e ∷ es) (choices (map (λ p. edges_of A p) qs))) (at_edges j S names sets)
      ∙ first_of_same (edges_of A q) _ _ (λ e.
      first_of_map (λ es. e ∷ es) (choices (map (λ p. edges_of A p) qs)) (at_edges j S names sets)
      ∙ first_of_same (choices (map (λ p. edges_of A p) qs)) _ _ (λ es. one e es)
      ∙ sym (map_first_of (with_edge e) (choices (map (λ p. edges_of A p) qs)) (at_edges j S (join names (single (edge_at A e).first)) (join sets (edge_at A e).S)))
      ∙ ap (Option.map (with_edge e)) (edges_first j S qs (join names (single (edge_at A e).first)) (join sets (edge_at A e).S)))
    where
      one : (e : ℕ) (es : List ℕ) → at_edges j S names sets (e ∷ es)
          ≡ Option.map (with_edge e) (at_edges j S (join names (single (edge_at A e).first)) (join sets (edge_at A e).S) es)
      one e es =
          ap₂ (λ (s n : ℕ). only_if (eqb s S) (Option.map (λ ms. record { edges = e ∷ es; moves = ms }) (first_reading A a goal (members n) j)))
          (sym (join_assoc sets (edge_at A e).S (edge_sets A es))) (sym (join_assoc names (single (edge_at A e).first) (named A es)))
          ∙ ap (only_if (eqb (join (join sets (edge_at A e).S) (edge_sets A es)) S))
          (sym (map-map (with_edge e) (λ ms. record { edges = es; moves = ms })
          (first_reading A a goal (members (join (join names (single (edge_at A e).first)) (named A es))) j)))
          ∙ sym (map_only_if (with_edge e) (eqb (join (join sets (edge_at A e).S) (edge_sets A es)) S)
          (Option.map (λ ms. record { edges = es; moves = ms }) (first_reading A a goal (members (join (join names (single (edge_at A e).first)) (named A es))) j)))
