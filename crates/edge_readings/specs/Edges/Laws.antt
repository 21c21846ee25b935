-- The turns of the loop over edges, and what is held of the choices that follow.
-- Assumes nothing.
use Rattle.std.specs.Prelude.{ℕ, suc, ◌+◌, ◌*◌, ◌≤◌, ◌<◌, Bool, ◌||◌, ◌≡◌, refl, get_or, leb}
use Rattle.std.proofs.Math.Path.{ap, subst}
use Rattle.std.proofs.Common.{ap₂, sym, ◌∙◌, arith, eq-eqb, ne_eqb}
use mathlib.Core.List.{List, ◌∷◌, Memᴰ}
use Rattle.std.proofs.Math.ListN.{length}
use Rattle.words.specs.Sets.{join, single, members}
use Rattle.words.proofs.Sets.Laws.{members_empty}
use Rattle.words.specs.Lists.{when}
use Rattle.automata.specs.Automaton.{Automaton, Edge, no_edge, edges, edge_at, edges_of}
use Rattle.automata.specs.Automaton.Laws.{edges_of_in}
use Rattle.automata.specs.Derivation.{Result, Joins}
use Rattle.tables.specs.declared.Table.{Table}
use Rattle.tables.specs.Held.{automaton_of, edges_in}
use Rattle.offers.specs.Offers.{Collects}
use Rattle.offers.specs.Offers.Laws.{OfferedBelow, passed_none, passed_more, passed_all, collects_same, collects_none}
use Rattle.readings.specs.Readings.{read_results, edge_results, reads_to, edges_to}
use Rattle.offers.specs.Offers.Alike.{covered_in, collects_alike}
use Rattle.tables.specs.Rows.{rows_in}
use Rattle.tables.specs.Rows.Laws.{length_rows_in}
use Rattle.tables.specs.Layouts.{edge_row}
use Rattle.tables.specs.Held.Laws.{length_edges_in}
use Rattle.choices.specs.Unchanged.{Unchanged}
use Rattle.readings.specs.declared.Before.{Before}
use Rattle.readings.specs.declared.Goal.{Goal}
use Rattle.readings.specs.Before.{table_before, Known, HeldBefore}
use Rattle.edge_readings.specs.Naming.{named_with}
use Rattle.edge_readings.specs.Naming.Laws.{named_less, named_more, known_edge}
use Rattle.edge_readings.specs.Edges.{edges_test}

module _ (z : Table) (inner entries moves : List ℕ) (p a : ℕ) (j : Joins) (q : ℕ) (qs : List ℕ) (N S : ℕ) where
  -- what edge e gives
  abbrev pub results_by : Edge → List Result
  results_by e = edge_results (automaton_of z inner entries moves) p a j qs (join N (single e.first)) (join S e.S)

  -- what edge number i gives
  unfoldable pub edge_step : ℕ → List Result
  edge_step i = results_by (edge_at (automaton_of z inner entries moves) i)

  -- The results by the first i edges, of those of state q, were offered.
  abbrev pub EdgesUpTo : ℕ → ℕ → List ℕ → ℕ → ℕ → List ℕ → Type 0
  EdgesUpTo room n t i k t' = OfferedBelow (automaton_of z inner entries moves) room (edges_test q) (edges_in z inner entries) no_edge edge_step n t i k t'

  module _ (room n : ℕ) (t : List ℕ) where
    pub edges_none : n ≤ room + 1 → EdgesUpTo room n t 0 n t
    edges_none h = passed_none (automaton_of z inner entries moves) room (edges_test q) (edges_in z inner entries) no_edge edge_step n t h

    module _ (i k : ℕ) (t' : List ℕ) (e : Edge) (h : EdgesUpTo room n t i k t') (b : i < z.edges + z.entries)
        (f : e ≡ get_or (edges_in z inner entries) i no_edge) where
      edges_list : when (edges_test q e) (results_by e) ≡ when (edges_test q (get_or (edges_in z inner entries) i no_edge)) (edge_step i)
      unfolding edge_step edge_at edges
      edges_list = ap (λ (x : Edge). when (edges_test q x) (results_by x)) f

      edges_more : (k' : ℕ) (t'' : List ℕ) → Collects (automaton_of z inner entries moves) room k t' (when (edges_test q e) (results_by e)) k' t''
          → length t'' ≡ length t' → EdgesUpTo room n t (i + 1) k' t''
      edges_more k' t'' c l =
          let len : length (edges_in z inner entries) ≡ z.edges + z.entries = length_edges_in z inner entries in
          passed_more (automaton_of z inner entries moves) room (edges_test q) (edges_in z inner entries) no_edge edge_step h (omega arith) (collects_same edges_list c) l

      pub edges_yes : (c N' S' k' k'' : ℕ) (t'' t''' : List ℕ) → e.state ≡ q → Unchanged (automaton_of z inner entries moves) e.first a j c → N' ≡ named_with N e.first c → S' ≡ join S e.S
          → Collects (automaton_of z inner entries moves) room k t' (edge_results (automaton_of z inner entries moves) p a j qs N' S') k' t''
          → length t'' ≡ length t' → t''' ≡ t'' → k'' ≡ k' → EdgesUpTo room n t (i + 1) k'' t'''
      unfolding when
      edges_yes c N' S' k' k'' t'' t''' y u en es d l et ek =
          rw (et, ek)
          (edges_more k' t''
          (collects_same (ap (λ (b : Bool). when b (results_by e)) (sym (eq-eqb e.state q y)))
          (collects_alike
          (covered_in (λ x m. named_more (automaton_of z inner entries moves) p a j qs N e.first c (join S e.S) u m))
          (covered_in (λ x m. named_less (automaton_of z inner entries moves) p a j qs N e.first c (join S e.S) u m))
          (collects_same (ap₂ (λ (x y : ℕ). edge_results (automaton_of z inner entries moves) p a j qs x y) en es) d))) l)

      pub edges_no : (k' : ℕ) (t'' : List ℕ) → (e.state ≡ q → ⊥) → t'' ≡ t' → k' ≡ k → EdgesUpTo room n t (i + 1) k' t''
      unfolding when
      edges_no k' t'' y et ek =
          rw (et, ek)
          (edges_more k t' (collects_same (ap (λ (b : Bool). when b (results_by e)) (sym (ne_eqb e.state q y))) (collects_none k t' h.offered.number)) refl)

    pub edges_all : (i k : ℕ) (t' : List ℕ) → EdgesUpTo room n t i k t' → z.edges + z.entries ≤ i
        → Collects (automaton_of z inner entries moves) room n t (edge_results (automaton_of z inner entries moves) p a j (q ∷ qs) N S) k t'
    unfolding edge_results edges_of edges edge_step
    edges_all i k t' h b =
        let len : length (edges_in z inner entries) ≡ z.edges + z.entries = length_edges_in z inner entries in
        passed_all (automaton_of z inner entries moves) room (edges_test q) (edges_in z inner entries) no_edge edge_step h (omega arith)

-- what is known of the choices that follow edge i of state q
pub known_by : (z : Table) (inner entries moves : List ℕ) (w : Before) (p a : ℕ) (j : Joins) (q : ℕ) (qs : List ℕ) (N S i c N' S' : ℕ) (e : Edge) (new newer newest : Bool)
    → i < z.edges + z.entries → e ≡ get_or (edges_in z inner entries) i no_edge → e.state ≡ q → Unchanged (automaton_of z inner entries moves) e.first a j c
    → newer ≡ new || leb (z.edges + w.entries) i → newest ≡ newer || leb (w.moves + 1) c → N' ≡ named_with N e.first c → S' ≡ join S e.S
    → Known (automaton_of z inner entries moves) new (edge_results (table_before w (automaton_of z inner entries moves)) p a j (q ∷ qs) N S)
    → Known (automaton_of z inner entries moves) newest (edge_results (table_before w (automaton_of z inner entries moves)) p a j qs N' S')
unfolding edge_at edges
known_by z inner entries moves w p a j q qs N S i c N' S' e new newer newest b f y u d g en es k =
    let A : Automaton = automaton_of z inner entries moves in
    let len : length (edges_in z inner entries) ≡ z.edges + z.entries = length_edges_in z inner entries in
    let rows : length (rows_in edge_row z.edges inner) ≡ z.edges = length_rows_in edge_row z.edges inner in
    let there : Memᴰ i (edges_of A q) = edges_of_in A (record { below = omega arith; state_is = ap (λ (x : Edge). x.state) (sym f) ∙ y }) in
    rw (en, es, f)
    (known_edge A w p a j q qs N S i c new newer newest there
    (subst (λ (x : Edge). Unchanged A x.first a j c) f u)
    (d ∙ ap (λ (x : ℕ). new || leb (x + w.entries) i) (sym rows)) g k)

-- no state is left
pub edges_end : (A : Automaton) (p a : ℕ) (j : Joins) (N S left : ℕ) → left ≡ 0 → read_results A p a S (members N) j ≡ edge_results A p a j (members left) N S
unfolding edge_results
edges_end A p a j N S left e = ap (λ (l : List ℕ). edge_results A p a j l N S) (sym (ap members e ∙ members_empty))

-- fewer states are left
pub fewer_edges : (left q others m : ℕ) → members left ≡ q ∷ members others → length (members left) * 3 + 1 ≡ m → length (members others) * 3 + 3 < m
fewer_edges left q others m e f = let g : length (members left) ≡ suc (length (members others)) = ap length e in omega arith

module _ (A E : Automaton) (p a : ℕ) (j : Joins) (N S left : ℕ) (new : Bool) where
  -- what is known, by the first of the states left
  pub known_left : (q : ℕ) (qs : List ℕ) → members left ≡ q ∷ qs → Known A new (edge_results E p a j (members left) N S) → Known A new (edge_results E p a j (q ∷ qs) N S)
  known_left q qs e k = subst (λ (l : List ℕ). Known A new (edge_results E p a j l N S)) e k

  -- what is known where no state is left
  pub known_end : left ≡ 0 → Known A new (edge_results E p a j (members left) N S) → Known A new (read_results E p a S (members N) j)
  unfolding edge_results
  known_end e k = subst (λ (l : List ℕ). Known A new (edge_results E p a j l N S)) (ap members e ∙ members_empty) k

-- ---- what is held, handed on

module _ (A : Automaton) (to : Goal) (S : ℕ) (new : Bool) (j : Joins) (N left : ℕ) (h : HeldBefore A to new (edges_to to S j (members left) N)) where
  -- the first of the states left first
  pub held_first : (q : ℕ) (qs : List ℕ) → members left ≡ q ∷ qs → HeldBefore A to new (edges_to to S j (q ∷ qs) N)
  held_first q qs e = record { settles = h.settles; known = known_left A (table_before to.before A) to.control to.symbol j N S left new q qs e h.known }

  -- where no state is left
  pub held_end : left ≡ 0 → HeldBefore A to new (reads_to to S (members N) j)
  held_end e = record { settles = h.settles; known = known_end A (table_before to.before A) to.control to.symbol j N S left new e h.known }

-- by edge i of state q
pub held_edge : (z : Table) (inner entries moves : List ℕ) (to : Goal) (S : ℕ) (j : Joins) (q : ℕ) (qs : List ℕ) (N i c N' S' : ℕ) (e : Edge) (new newer newest : Bool)
    → i < z.edges + z.entries → e ≡ get_or (edges_in z inner entries) i no_edge → e.state ≡ q → Unchanged (automaton_of z inner entries moves) e.first to.symbol j c
    → newer ≡ new || leb (z.edges + to.before.entries) i → newest ≡ newer || leb (to.before.moves + 1) c → N' ≡ named_with N e.first c → S' ≡ join S e.S
    → HeldBefore (automaton_of z inner entries moves) to new (edges_to to S j (q ∷ qs) N) → HeldBefore (automaton_of z inner entries moves) to newest (edges_to to S' j qs N')
held_edge z inner entries moves to S j q qs N i c N' S' e new newer newest b f y u d g en es h =
    record {
      settles = h.settles;
      known = known_by z inner entries moves to.before to.control to.symbol j q qs N S i c N' S' e new newer newest b f y u d g en es h.known;
    }
