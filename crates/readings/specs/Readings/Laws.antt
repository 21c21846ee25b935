-- The readings by recursion are those of the definition.
-- Assumes nothing.
use Rattle.std.specs.Prelude.{ℕ, ◌≡◌}
use Rattle.std.proofs.Math.Path.{refl, ap₂}
use Rattle.std.proofs.Common.{sym, ◌∙◌}
use Rattle.std.proofs.Math.Option.{Option, none, some}
use mathlib.Core.List.{List, [], ◌∷◌, map}
use Rattle.words.specs.Sets.{join, single, members}
use Rattle.words.proofs.Sets.Laws.{join_assoc, join_empty_left, join_empty_right}
use Rattle.words.specs.Lists.{each, choices}
use Rattle.words.specs.Lists.Laws.{each_same, each_none, each_map, each_each, each_one}
use Rattle.automata.specs.Automaton.{Automaton, move_at, edge_at, moves_of, edges_of}
use Rattle.automata.specs.Derivation.{Result, Joins, join_move, join_moves, join_all, readings, edge_choices, named, edge_sets}
use Rattle.readings.specs.Readings.{result_to, from_joins, read_results, edge_results}

-- ---- choices, one list at a time

module _ {X Y : Type 0} where
  each_choices : (l : List X) (ls : List (List X)) (f : List X → List Y) → each (choices (l ∷ ls)) f ≡ each l (λ x. each (choices ls) (λ xs. f (x ∷ xs)))
  unfolding choices
  each_choices l ls f =
      each_each l (λ x. map (λ xs. x ∷ xs) (choices ls)) f
      ∙ each_same l (λ x. each (map (λ xs. x ∷ xs) (choices ls)) f) (λ x. each (choices ls) (λ xs. f (x ∷ xs))) (λ x j. each_map (λ xs. x ∷ xs) (choices ls) f)

-- ---- joins, and nothing where orders clash

module _ {X : Type 0} where
  pub joins_same : (o : Option Joins) (f g : Joins → List X) → ((j : Joins) → f j ≡ g j) → from_joins o f ≡ from_joins o g
  unfolding from_joins
  joins_same none f g h = refl
  joins_same (some j) f g h = h j

  each_joins : {Y : Type 0} (o : Option Joins) (l : List Y) (g : Joins → Y → List X) → each l (λ y. from_joins o (λ j. g j y)) ≡ from_joins o (λ j. each l (g j))
  unfolding from_joins
  each_joins none l g = each_none l (λ y. []) (λ y i. refl)
  each_joins (some j) l g = refl

-- ---- readings

module _ (A : Automaton) (p a : ℕ) where
  -- what the moves of these numbers give, joined to j
  unfoldable concluded : ℕ → Joins → List ℕ → List Result
  concluded S j ms = from_joins (join_all A j ms) (λ k. result_to p a S k ∷ [])

  concluded_cons : (S : ℕ) (j : Joins) (i : ℕ) (ms : List ℕ) → concluded S j (i ∷ ms) ≡ from_joins (join_move j (move_at A i)) (λ k. concluded S k ms)
  unfolding concluded join_all join_moves from_joins
  concluded_cons S j i ms = go (join_move j (move_at A i)) refl
    where
      go : (o : Option Joins) → join_move j (move_at A i) ≡ o → concluded S j (i ∷ ms) ≡ from_joins o (λ k. concluded S k ms)
      go none e = rw (join_moves, e)
      go (some k) e = rw (join_moves, e)

  read_is : (S : ℕ) (rs : List ℕ) (j : Joins) → each (choices (map (λ r. moves_of A r a) rs)) (concluded S j) ≡ read_results A p a S rs j
  unfolding read_results choices concluded join_all join_moves from_joins
  read_is S [] j = each_one [] (concluded S j)
  read_is S (r ∷ rs) j =
      each_choices (moves_of A r a) (map (λ q. moves_of A q a) rs) (concluded S j)
      ∙ each_same (moves_of A r a) (λ i. each (choices (map (λ q. moves_of A q a) rs)) (λ ms. concluded S j (i ∷ ms)))
      (λ i. from_joins (join_move j (move_at A i)) (λ k. read_results A p a S rs k))
      (λ i m. each_same (choices (map (λ q. moves_of A q a) rs)) (λ ms. concluded S j (i ∷ ms))
      (λ ms. from_joins (join_move j (move_at A i)) (λ k. concluded S k ms)) (λ ms n. concluded_cons S j i ms)
      ∙ each_joins (join_move j (move_at A i)) (choices (map (λ q. moves_of A q a) rs)) (λ k. concluded S k)
      ∙ joins_same (join_move j (move_at A i)) (λ k. each (choices (map (λ q. moves_of A q a) rs)) (concluded S k)) (λ k. read_results A p a S rs k) (λ k. read_is S rs k))

  -- what a choice of edges gives
  unfoldable edges_concluded : Joins → ℕ → ℕ → List ℕ → List Result
  edges_concluded j N S es = read_results A p a (join S (edge_sets A es)) (members (join N (named A es))) j

  edges_is : (j : Joins) (qs : List ℕ) (N S : ℕ) → each (choices (map (λ q. edges_of A q) qs)) (edges_concluded j N S) ≡ edge_results A p a j qs N S
  unfolding edge_results choices edges_concluded edge_sets named
  edges_is j [] N S =
      each_one [] (edges_concluded j N S) ∙ ap₂ (λ (x y : ℕ). read_results A p a x (members y) j) (join_empty_right S) (join_empty_right N)
  edges_is j (q ∷ qs) N S =
      each_choices (edges_of A q) (map (λ x. edges_of A x) qs) (edges_concluded j N S)
      ∙ each_same (edges_of A q) (λ e. each (choices (map (λ x. edges_of A x) qs)) (λ es. edges_concluded j N S (e ∷ es)))
      (λ e. edge_results A p a j qs (join N (single (edge_at A e).first)) (join S (edge_at A e).S))
      (λ e m. each_same (choices (map (λ x. edges_of A x) qs)) (λ es. edges_concluded j N S (e ∷ es))
      (edges_concluded j (join N (single (edge_at A e).first)) (join S (edge_at A e).S))
      (λ es n. ap₂ (λ (x y : ℕ). read_results A p a x (members y) j)
      (sym (join_assoc S (edge_at A e).S (edge_sets A es))) (sym (join_assoc N (single (edge_at A e).first) (named A es))))
      ∙ edges_is j qs (join N (single (edge_at A e).first)) (join S (edge_at A e).S))

  -- ---- readings of the definition

  pub readings_read : (S R : ℕ) (j : Joins)
      → each (readings A a R) (λ ms. from_joins (join_all A j ms) (λ k. result_to p a S k ∷ [])) ≡ read_results A p a S (members R) j
  unfolding readings concluded
  readings_read S R j = read_is S (members R) j

  pub edges_read : (S : ℕ) (j : Joins)
      → each (edge_choices A S) (λ es. read_results A p a (edge_sets A es) (members (named A es)) j) ≡ edge_results A p a j (members S) 0 0
  unfolding edge_choices edges_concluded
  edges_read S j =
      each_same (edge_choices A S) (λ es. read_results A p a (edge_sets A es) (members (named A es)) j) (edges_concluded j 0 0)
      (λ es m. ap₂ (λ (x y : ℕ). read_results A p a x (members y) j) (sym (join_empty_left (edge_sets A es))) (sym (join_empty_left (named A es))))
      ∙ edges_is j (members S) 0 0
