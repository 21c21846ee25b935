-- What an earlier table gives: a derivation made wholly of its moves and edges is one of its own.
-- Assumes nothing.
use Rattle.std.specs.Prelude.{ℕ, ◌<◌, ◌≡◌, refl, length}
use Rattle.std.proofs.Common.{ap, sym, ◌∙◌, subst}
use Rattle.std.proofs.Math.Option.{some}
use mathlib.Core.List.{List, [], ◌∷◌, Memᴰ}
use Rattle.words.specs.Sets.{join, single}
use Rattle.words.specs.Lists.Laws.{each_in, each_out}
use Rattle.automata.specs.Automaton.{Automaton, edges, edge_at, move_at, moves_of, edges_of}
use Rattle.automata.specs.Automaton.Laws.{moves_of_out, moves_of_in, edges_of_out, edges_of_in}
use Rattle.automata.specs.Derivation.{Result, Joins, join_move}
use Rattle.automata.specs.Facts.{Extends}
use Rattle.automata.specs.Facts.Laws.{move_at_kept, edge_at_kept}
use Rattle.readings.specs.Readings.{read_results, edge_results}
use Rattle.readings.specs.Readings.Order.{read_out, read_in}

-- ---- a result of a choice of edges, by its first edge

module _ (A : Automaton) (p a : ℕ) (j : Joins) where
  -- The edge that a result's choice takes first.
  pub record FirstEdge (q : ℕ) (qs : List ℕ) (N S : ℕ) (x : Result) : Type 0 where
    pub number : ℕ
    pub there : Memᴰ number (edges_of A q)
    pub rest : Memᴰ x (edge_results A p a j qs (join N (single (edge_at A number).first)) (join S (edge_at A number).S))

  pub edges_out : (q : ℕ) (qs : List ℕ) (N S : ℕ) {x : Result} → Memᴰ x (edge_results A p a j (q ∷ qs) N S) → FirstEdge q qs N S x
  unfolding edge_results
  edges_out q qs N S m =
      let w = each_out (edges_of A q) (λ e. edge_results A p a j qs (join N (single (edge_at A e).first)) (join S (edge_at A e).S)) m in
      record { number = w.0; there = w.1; rest = w.2 }

  pub edges_in_lem : (q : ℕ) (qs : List ℕ) (N S : ℕ) {x : Result} → FirstEdge q qs N S x → Memᴰ x (edge_results A p a j (q ∷ qs) N S)
  unfolding edge_results
  edges_in_lem q qs N S f =
      each_in (λ e. edge_results A p a j qs (join N (single (edge_at A e).first)) (join S (edge_at A e).S)) f.there f.rest

-- ---- by moves and edges of the earlier table

module _ {E A : Automaton} (x : Extends E A) (p a : ℕ) where
  pub old_move : (r : ℕ) {i : ℕ} → Memᴰ i (moves_of A r a) → i < length E.moves → Memᴰ i (moves_of E r a)
  old_move r {i} m b =
      let h = moves_of_out A r a m in
      let e = move_at_kept x i b in
      moves_of_in E
      (record {
        below = b;
        state_is = subst (λ y. y.state ≡ r) e h.state_is;
        symbol_is = subst (λ y. y.symbol ≡ a) e h.symbol_is;
      })

  -- an old move first, and a reading of the earlier table for the others
  pub read_old : (S r : ℕ) (rs : List ℕ) (j : Joins) (i : ℕ) {k : Joins} {y : Result} → Memᴰ i (moves_of A r a) → i < length E.moves
      → join_move j (move_at A i) ≡ some k → Memᴰ y (read_results E p a S rs k) → Memᴰ y (read_results E p a S (r ∷ rs) j)
  read_old S r rs j i {k} m b e h =
      read_in E p a S r rs j
      (record {
        number = i;
        there = old_move r m b;
        joins = k;
        joins_are = ap (join_move j) (sym (move_at_kept x i b)) ∙ e;
        rest = h;
      })

  -- states all of whose moves are old
  pub read_all_old : (S : ℕ) (rs : List ℕ) (j : Joins) {y : Result} → ((r i : ℕ) → Memᴰ r rs → Memᴰ i (moves_of A r a) → i < length E.moves)
      → Memᴰ y (read_results A p a S rs j) → Memᴰ y (read_results E p a S rs j)
  unfolding read_results
  read_all_old S [] j h m = m
  read_all_old S (r ∷ rs) j h m =
      let f = read_out A p a S r rs j m in
      read_old S r rs j f.number f.there (h r f.number (Memᴰ.head refl) f.there) f.joins_are
      (read_all_old S rs f.joins (λ q i n. h q i (Memᴰ.tail n)) f.rest)

  -- an old edge first
  pub edges_old : (j : Joins) (q : ℕ) (qs : List ℕ) (N S e : ℕ) {y : Result} → Memᴰ e (edges_of A q) → e < length (edges E)
      → Memᴰ y (edge_results E p a j qs (join N (single (edge_at A e).first)) (join S (edge_at A e).S)) → Memᴰ y (edge_results E p a j (q ∷ qs) N S)
  edges_old j q qs N S e {y} m b h =
      let k = edge_at_kept x e b in
      edges_in_lem E p a j q qs N S
      (record {
        number = e;
        there = edges_of_in E (record { below = b; state_is = subst (λ g. g.state ≡ q) k (edges_of_out A q m).state_is });
        rest = subst (λ g. Memᴰ y (edge_results E p a j qs (join N (single g.first)) (join S g.S))) k h;
      })
