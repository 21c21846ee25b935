-- The search for the first choice of edges, as the code goes: the base, one edge followed, and the loop over the edges of the least state.
-- Assumes nothing.
use Rattle.std.specs.Prelude.{ℕ, ◌+◌, Bool, true, false, ◌≡◌, refl, get_or, eqb}
use Rattle.std.proofs.Math.Path.{ap, sym}
use Rattle.std.proofs.Common.{ap₂, ◌∙◌, subst, length-append, eq-eqb, ne_eqb}
use Rattle.std.proofs.Math.Option.{Option, none, map}
use mathlib.Core.List.{List, [], ◌∷◌}
use Rattle.std.proofs.Math.ListN.{set}
use Rattle.words.specs.Sets.{join, single, members, part_of}
use Rattle.words.proofs.Sets.Laws.{members_empty, join_assoc, join_empty_right}
use Rattle.automata.specs.Automaton.{Edge, no_edge, edges, edge_at, edges_of, moves_of, move_at, entry_edges}
use Rattle.automata.specs.Automaton.Laws.{length_entry_edges}
use Rattle.automata.specs.Derivation.{Result, Joins, named}
use Rattle.tables.specs.declared.Table.{Table}
use Rattle.tables.specs.Rows.{rows_in}
use Rattle.tables.specs.Rows.Laws.{length_rows_in}
use Rattle.tables.specs.Layouts.{edge_row, entry_row}
use Rattle.tables.specs.Held.{automaton_of, edges_in}
use Rattle.first_reading.specs.First.{only_if, first_below}
use Rattle.first_reading.specs.First.Laws.{only_if_yes, only_if_no, at_place, first_of_places}
use Rattle.first_reading.specs.Search.{wanted, Numbers, only_moves, with_edge, first_reading, first_edges}
use Rattle.first_reading.specs.Search.Parts.{edges_none}
use Rattle.first_reading.specs.Words.{moves_in, followed, writes_edges, writes_moves}
use Rattle.first_reading.specs.Answer.{written_all, Answer, Answers}
use Rattle.first_reading.specs.Answer.Laws.{answer_eq, answer_yes, answer_no, answer_map, answer_still, is_some_map, answers_eq}

-- readings depend on the moves alone
pub reading_moves : (z : Table) (inner entries moves : List ℕ) (a : ℕ) (goal qs : List ℕ) (j : Joins)
    → first_reading (moves_in z.moves moves) a goal qs j ≡ first_reading (automaton_of z inner entries moves) a goal qs j
unfolding first_reading moves_of move_at
reading_moves z inner entries moves a goal qs j = refl

-- ---- no state is left

module _ (z : Table) (inner entries moves : List ℕ) (a : ℕ) (x : Result) (j : Joins) (left names s : ℕ) (none_left : left ≡ 0) where
  abbrev base_at : Option Numbers
  base_at = first_edges (automaton_of z inner entries moves) a (wanted x) j x.S (members left) names s

  base_is : base_at ≡ only_if (eqb s x.S) (map only_moves (first_reading (moves_in z.moves moves) a (wanted x) (members names) j))
  unfolding first_edges
  base_is =
      ap (λ (l : List ℕ). first_edges (automaton_of z inner entries moves) a (wanted x) j x.S l names s) (ap members none_left ∙ members_empty)
      ∙ ap (λ (o : Option (List ℕ)). only_if (eqb s x.S) (map only_moves o)) (sym (reading_moves z inner entries moves a (wanted x) (members names) j))

  -- the sets of the edges are not S
  pub base_other : (s ≡ x.S → ⊥) → base_at ≡ none
  base_other h = base_is ∙ only_if_no _ _ (ne_eqb s x.S h)

  module _ (same_set : s ≡ x.S) {t : Bool} {ms₀ ms : List ℕ}
      (read : Answer (first_reading (moves_in z.moves moves) a (wanted x) (members names) j) (written_all (members names)) t ms₀ ms) where
    base_read : base_at ≡ map only_moves (first_reading (moves_in z.moves moves) a (wanted x) (members names) j)
    base_read = base_is ∙ only_if_yes _ _ (eq-eqb s x.S same_set)

    base_edges : (es : List ℕ) → Answer base_at (writes_edges (members left)) t es es
    unfolding writes_edges written_all
    base_edges es =
        let l : members left ≡ [] = ap members none_left ∙ members_empty in
        answer_eq base_read (answer_still es (λ n. ap (λ (qs : List ℕ). written_all qs n.edges es) l)
        (read.success ∙ sym (is_some_map only_moves (first_reading (moves_in z.moves moves) a (wanted x) (members names) j))))

    base_moves : Answer base_at (writes_moves (automaton_of z inner entries moves) names) t ms₀ ms
    unfolding writes_moves named
    base_moves = answer_eq base_read (answer_map only_moves (written_all (members names)) (writes_moves (automaton_of z inner entries moves) names)
        (λ ns ws. ap (λ (k : ℕ). written_all (members k) ns ws) (sym (join_empty_right names))) read)

    -- all edges are chosen, and the reading is searched
    pub base_answers : (es : List ℕ) → Answers base_at (writes_edges (members left)) (writes_moves (automaton_of z inner entries moves) names) t es es ms₀ ms
    base_answers es = record { edges = base_edges es; moves = base_moves }

-- ---- one edge

module _ (z : Table) (inner entries moves : List ℕ) (a : ℕ) (x : Result) (j : Joins) (q : ℕ) (qs : List ℕ) (names s e : ℕ) (g : Edge)
    (edge : g ≡ get_or (edges_in z inner entries) e no_edge) where
  abbrev followed_at : Option Numbers
  followed_at = followed (automaton_of z inner entries moves) a (wanted x) j x.S q qs names s e

  -- the search with the joins of the edge
  abbrev edges_on : ℕ → ℕ → Option Numbers
  edges_on names' s' = first_edges (automaton_of z inner entries moves) a (wanted x) j x.S qs names' s'

  followed_is : followed_at ≡ only_if (eqb g.state q) (map (with_edge e) (edges_on (join names (single g.first)) (join s g.S)))
  unfolding followed edge_at edges
  followed_is = ap (λ (d : Edge). only_if (eqb d.state q) (map (with_edge e) (edges_on (join names (single d.first)) (join s d.S)))) (sym edge)

  pub followed_other : (g.state ≡ q → ⊥) → followed_at ≡ none
  followed_other h = followed_is ∙ only_if_no _ _ (ne_eqb g.state q h)

  pub followed_no_part : {s' : ℕ} → g.state ≡ q → s' ≡ join s g.S → part_of s' x.S ≡ false → followed_at ≡ none
  followed_no_part {s'} h es p =
      followed_is ∙ only_if_yes _ _ (eq-eqb g.state q h)
      ∙ ap (map (with_edge e))
      (edges_none (automaton_of z inner entries moves) a (wanted x) j x.S qs (join names (single g.first)) (join s g.S)
      (ap (λ (k : ℕ). part_of k x.S) (sym es) ∙ p))

  module _ {one names' s' : ℕ} (h : g.state ≡ q) (e₁ : one ≡ single g.first) (en : names' ≡ join names one) (es : s' ≡ join s g.S) where
    followed_on : followed_at ≡ map (with_edge e) (edges_on names' s')
    followed_on =
        followed_is ∙ only_if_yes _ _ (eq-eqb g.state q h)
        ∙ ap₂ (λ (n k : ℕ). map (with_edge e) (edges_on n k)) (sym (en ∙ ap (join names) e₁)) (sym es)

    -- how the choice of the other edges is written
    abbrev writes_on : ℕ → Numbers → List ℕ → List ℕ
    writes_on = writes_moves (automaton_of z inner entries moves)

    same_names : (n : Numbers) → join names' (named (automaton_of z inner entries moves) n.edges) ≡ join names (named (automaton_of z inner entries moves) (e ∷ n.edges))
    unfolding named edge_at edges
    same_names n =
        ap (λ (r : ℕ). join r (named (automaton_of z inner entries moves) n.edges)) (en ∙ ap (join names) (e₁ ∙ ap (λ (d : Edge). single d.first) edge))
        ∙ join_assoc names (single (edge_at (automaton_of z inner entries moves) e).first) (named (automaton_of z inner entries moves) n.edges)

    pub followed_yes : {es₀ es ms₀ ms : List ℕ} → Answers (edges_on names' s') (writes_edges qs) (writes_on names') true es₀ es ms₀ ms
        → Answers followed_at (writes_edges (q ∷ qs)) (writes_on names) true es₀ (set es q e) ms₀ ms
    unfolding writes_edges writes_moves written_all
    followed_yes k =
        answers_eq followed_on
        (record {
          edges = answer_yes (with_edge e) (writes_edges qs) (writes_edges (q ∷ qs)) (λ l. set l q e) (λ n ws. refl) k.edges;
          moves = answer_map (with_edge e) (writes_on names') (writes_on names) (λ n ws. ap (λ (r : ℕ). written_all (members r) n.moves ws) (same_names n)) k.moves;
        })

    pub followed_no : {es₀ es ms₀ ms : List ℕ} → Answers (edges_on names' s') (writes_edges qs) (writes_on names') false es₀ es ms₀ ms
        → Answers followed_at (writes_edges (q ∷ qs)) (writes_on names) false es₀ es ms₀ ms
    followed_no k =
        answers_eq followed_on
        (record {
          edges = answer_no (with_edge e) (writes_edges qs) (writes_edges (q ∷ qs)) k.edges;
          moves = answer_no (with_edge e) (writes_on names') (writes_on names) k.moves;
        })

-- ---- the loop over the edges

pub edges_below : (z : Table) (inner entries moves : List ℕ) (a : ℕ) (goal : List ℕ) (j : Joins) (S left q : ℕ) (qs : List ℕ) (names s : ℕ) → members left ≡ q ∷ qs
    → first_edges (automaton_of z inner entries moves) a goal j S (members left) names s
    ≡ first_below (z.edges + z.entries) (followed (automaton_of z inner entries moves) a goal j S q qs names s)
unfolding first_edges followed edges_of edge_at edges at_place
edges_below z inner entries moves a goal j S left q qs names s e =
    ap (λ (l : List ℕ). first_edges (automaton_of z inner entries moves) a goal j S l names s) e
    ∙ first_of_places (λ d. eqb d.state q) (edges_in z inner entries) no_edge _
    ∙ ap (λ (k : ℕ). first_below k (followed (automaton_of z inner entries moves) a goal j S q qs names s))
    (length-append (rows_in edge_row z.edges inner) (entry_edges z.inner1 (rows_in entry_row z.entries entries))
    ∙ ap₂ ◌+◌ (length_rows_in edge_row z.edges inner) (length_entry_edges z.inner1 (rows_in entry_row z.entries entries) ∙ length_rows_in entry_row z.entries entries))

-- the same, where the number of edges is n
pub edges_counted : (z : Table) (inner entries moves : List ℕ) (a : ℕ) (goal : List ℕ) (j : Joins) (S left q : ℕ) (qs : List ℕ) (names s : ℕ) {n : ℕ}
    → n ≡ z.edges + z.entries → members left ≡ q ∷ qs
    → first_edges (automaton_of z inner entries moves) a goal j S (members left) names s
    ≡ first_below n (followed (automaton_of z inner entries moves) a goal j S q qs names s)
edges_counted z inner entries moves a goal j S left q qs names s count e =
    edges_below z inner entries moves a goal j S left q qs names s e
    ∙ ap (λ (k : ℕ). first_below k (followed (automaton_of z inner entries moves) a goal j S q qs names s)) (sym count)

-- the same states
pub states_edges : {l k : List ℕ} {o : Option Numbers} {w : Numbers → List ℕ → List ℕ} {t : Bool} {es₀ es ms₀ ms : List ℕ} → l ≡ k
    → Answers o (writes_edges k) w t es₀ es ms₀ ms → Answers o (writes_edges l) w t es₀ es ms₀ ms
states_edges {o = o} {w} {t} {es₀} {es} {ms₀} {ms} e a = subst (λ qs. Answers o (writes_edges qs) w t es₀ es ms₀ ms) (sym e) a
