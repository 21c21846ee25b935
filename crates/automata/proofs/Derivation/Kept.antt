-- A derivation from an automaton is one from every automaton that extends it.
-- Assumes nothing.
use Rattle.std.specs.Prelude.{ℕ, ◌<◌, ◌≡◌}
use Rattle.std.proofs.Math.Path.{refl, ap, ap₂}
use Rattle.std.proofs.Common.{◌∙◌}
use mathlib.Core.List.{List, [], ◌∷◌, map, Memᴰ}
use Rattle.std.proofs.Math.ListN.{length}
use Rattle.words.specs.Sets.{join, single}
use Rattle.stacks.specs.Stack.{Operation, rewrite, push1, push2, copy, pop1, pop2, collapse1, collapse2}
use Rattle.stacks.specs.System.{Rule}
use Rattle.automata.specs.Automaton.{Automaton, Move, Edge, edges, move_at}
use Rattle.automata.specs.Automaton.Laws.{MoveOf, EdgeOf}
use Rattle.automata.specs.Derivation.{Derivation, Joins, join_moves, join_all, named, edge_sets}
use Rattle.automata.specs.Derivation.Numbers.{Paired, paired_map, paired_state}
use Rattle.automata.proofs.Derivation.Laws.{Says, ByRewrite, ByPush, ByCopy, ByEntry}
use Rattle.automata.specs.Facts.{Extends}
use Rattle.automata.specs.Facts.Laws.{move_at_kept, move_of_kept, edge_at_kept, edge_of_kept, entry_is_kept, entry_move_kept}

-- ---- joins of moves and of edges by number

module _ {own A : Automaton} (x : Extends own A) where
  pub named_kept : (es : List ℕ) → ((e : ℕ) → Memᴰ e es → e < length (edges own)) → named A es ≡ named own es
  unfolding named
  named_kept [] f = refl
  named_kept (e ∷ es) f =
      ap₂ (λ (y : Edge) (n : ℕ). join (single y.first) n) (edge_at_kept x e (f e (Memᴰ.head refl))) (named_kept es (λ y i. f y (Memᴰ.tail i)))

  pub edge_sets_kept : (es : List ℕ) → ((e : ℕ) → Memᴰ e es → e < length (edges own)) → edge_sets A es ≡ edge_sets own es
  unfolding edge_sets
  edge_sets_kept [] f = refl
  edge_sets_kept (e ∷ es) f =
      ap₂ (λ (y : Edge) (n : ℕ). join y.S n) (edge_at_kept x e (f e (Memᴰ.head refl))) (edge_sets_kept es (λ y i. f y (Memᴰ.tail i)))

  pub join_all_kept : (j : Joins) (ns : List ℕ) → ((i : ℕ) → Memᴰ i ns → i < length own.moves) → join_all A j ns ≡ join_all own j ns
  unfolding join_all
  join_all_kept j ns f = ap (join_moves j) (go ns f)
    where
      go : (ns : List ℕ) → ((i : ℕ) → Memᴰ i ns → i < length own.moves) → map (λ i. move_at A i) ns ≡ map (λ i. move_at own i) ns
      go [] f = refl
      go (n ∷ ns) f = ap₂ (λ (m : Move) (l : List Move). m ∷ l) (move_at_kept x n (f n (Memᴰ.head refl))) (go ns (λ y i. f y (Memᴰ.tail i)))

-- ---- what a derivation says

module _ {own A : Automaton} (x : Extends own A) (ρ : Rule) (d : Derivation) where
  reading_below : {a : ℕ} {rs ms : List ℕ} → Paired (MoveOf own a) rs ms → (i : ℕ) → Memᴰ i ms → i < length own.moves
  reading_below ps i j = (paired_state ps j).2.below

  edges_below : {qs es : List ℕ} → Paired (EdgeOf own) qs es → (e : ℕ) → Memᴰ e es → e < length (edges own)
  edges_below ps e j = (paired_state ps j).2.below

  reading_kept : {a : ℕ} {rs ms : List ℕ} → Paired (MoveOf own a) rs ms → Paired (MoveOf A a) rs ms
  reading_kept ps = paired_map (λ r i h. move_of_kept x h) ps

  rewrite_kept : {b : ℕ} → ByRewrite own ρ b d → ByRewrite A ρ b d
  rewrite_kept h =
      record { move = h.move; S = h.S; premise = entry_move_kept x h.premise; concluded = rw (move_at_kept x h.move h.premise.below) h.concluded }

  push_kept : {k b : ℕ} {start : Move → Joins} {set : ℕ → Move → ℕ} → ByPush own ρ k b start set d → ByPush A ρ k b start set d
  push_kept {start = start} h =
      let e : move_at A h.move ≡ move_at own h.move = move_at_kept x h.move h.premise.below in
      record {
        move = h.move;
        S = h.S;
        premise = entry_move_kept x h.premise;
        order_fits_holds = rw e h.order_fits_holds;
        reading = rw e (reading_kept h.reading);
        joins = h.joins;
        joined = rw e (join_all_kept x (start (move_at own h.move)) d.moves (reading_below h.reading) ∙ h.joined);
        concluded = rw e h.concluded;
      }

  copy_kept : ByCopy own ρ d → ByCopy A ρ d
  copy_kept h =
      let e : move_at A h.move ≡ move_at own h.move = move_at_kept x h.move h.premise.below in
      record {
        move = h.move;
        S = h.S;
        premise = entry_move_kept x h.premise;
        chosen = paired_map (λ q n k. edge_of_kept x k) h.chosen;
        reading = rw (named_kept x d.edges (edges_below h.chosen)) (reading_kept h.reading);
        joins = h.joins;
        joined = rw e (join_all_kept x _ d.moves (reading_below h.reading) ∙ h.joined);
        concluded = rw (edge_sets_kept x d.edges (edges_below h.chosen)) h.concluded;
      }

  by_entry_kept : {joins : ℕ → Joins} → ByEntry own ρ joins d → ByEntry A ρ joins d
  by_entry_kept h = record { entry = h.entry; S = h.S; premise = entry_is_kept x h.premise; concluded = rw x.same_J h.concluded }

  pub says_kept : (o : Operation) → Says own ρ o d → Says A ρ o d
  says_kept (rewrite b) h = rewrite_kept h
  says_kept (push1 b) h = push_kept h
  says_kept (push2 b) h = push_kept h
  says_kept copy h = copy_kept h
  says_kept pop1 h = by_entry_kept h
  says_kept pop2 h = h
  says_kept collapse1 h = by_entry_kept h
  says_kept collapse2 h = h
