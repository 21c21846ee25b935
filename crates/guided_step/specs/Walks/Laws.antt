-- What holds of a walk on lent cells: its cells by number, and the top by the kind of a cell.
-- Assumes nothing.
use Rattle.std.specs.Prelude.{ℕ, ◌+◌, ◌≤◌, ◌<◌, ◌≡◌, refl, List, [], length, get_or}
use Rattle.std.proofs.Math.Path.{ap, sym}
use Rattle.std.proofs.Common.{◌∙◌, arith}
use Rattle.std.proofs.Math.Option.{Option, none, some}
use Rattle.std.proofs.Math.ListN.{get_or-eq_default}
use Rattle.automata.specs.Automaton.{Automaton, Edge, no_edge, edges, edge_at}
use Rattle.automata.specs.Automaton.Laws.{length_edges}
use Rattle.walks.specs.Cell as walks
use Rattle.walks.specs.Guide.{Guided, no_guided, Walk, Top, guided_at, top_on, top_of}
use Rattle.tables.specs.declared.Table.{Table}
use Rattle.tables.specs.Rows.{rows_in}
use Rattle.tables.specs.Rows.Laws.{length_rows_in}
use Rattle.tables.specs.Layouts.{edge_row, entry_row}
use Rattle.tables.specs.Held.{automaton_of, edges_in}
use Rattle.cell_memory.specs.declared.Cell.{Cell}
use Rattle.cell_memory.specs.declared.Cell.TheVariants.{Empty1, Symbol, Empty2, Above}
use Rattle.cell_memory.specs.Memory.{cell_of, cell_in, choice_in, guided_cell, guided_in}
use Rattle.cell_memory.specs.Memory.Laws.{guided_in_at, guided_in_past}

-- ---- cells by number

module _ (n : ℕ) (ws : List ℕ) (i : ℕ) where
  pub cell_there : {x : Cell} → i < n → x ≡ cell_in ws i → cell_of x ≡ (get_or (guided_in n ws) i no_guided).cell
  unfolding guided_cell
  cell_there h e = ap cell_of e ∙ sym (ap (λ (g : Guided). g.cell) (guided_in_at n ws i h))

  pub cell_past : n ≤ i → cell_of Empty1 ≡ (get_or (guided_in n ws) i no_guided).cell
  unfolding cell_of
  cell_past h = sym (ap (λ (g : Guided). g.cell) (guided_in_past n ws i h))

  pub choice_there : (q : ℕ) {x : ℕ} → i < n → x ≡ choice_in ws i q → x ≡ (get_or (guided_in n ws) i no_guided).choice q
  unfolding guided_cell
  choice_there q h e = e ∙ sym (ap (λ (g : Guided). g.choice q) (guided_in_at n ws i h))

  pub choice_past : (q : ℕ) → n ≤ i → 0 ≡ (get_or (guided_in n ws) i no_guided).choice q
  choice_past q h = sym (ap (λ (g : Guided). g.choice q) (guided_in_past n ws i h))

-- ---- an edge's order-1 state

pub first_past : (z : Table) (inner entries : List ℕ) (n : ℕ) → z.edges + z.entries ≤ n → 0 ≡ (get_or (edges_in z inner entries) n no_edge).first
unfolding edges
first_past z inner entries n h =
    let a : length (rows_in edge_row z.edges inner) ≡ z.edges = length_rows_in edge_row z.edges inner in
    let b : length (rows_in entry_row z.entries entries) ≡ z.entries = length_rows_in entry_row z.entries entries in
    let l : length (edges_in z inner entries) ≡ length (rows_in edge_row z.edges inner) + length (rows_in entry_row z.entries entries) =
    length_edges (automaton_of z inner entries []) in
    sym (ap (λ (e : Edge). e.first) (get_or-eq_default (edges_in z inner entries) no_edge (omega arith)))

-- ---- the top where an order-1 cell stands on an order-2 cell

module _ (w : Walk) (c r t : ℕ) {x : Cell} (e : cell_of x ≡ (guided_at w c).cell) where
  on_kind : {y : Cell} → x ≡ y → top_on w c r t (cell_of y) ≡ top_on w c r t (guided_at w c).cell
  on_kind h = ap (top_on w c r t) (ap cell_of (sym h) ∙ e)

  pub on_empty1 : x ≡ Empty1 → none ≡ top_on w c r t (guided_at w c).cell
  unfolding top_on cell_of
  on_empty1 h = on_kind h

  pub on_empty2 : x ≡ Empty2 → none ≡ top_on w c r t (guided_at w c).cell
  unfolding top_on cell_of
  on_empty2 h = on_kind h

  pub on_above : {y v : ℕ} → x ≡ Above y v → none ≡ top_on w c r t (guided_at w c).cell
  unfolding top_on cell_of
  on_above h = on_kind h

  pub on_symbol : {a u s i : ℕ} → x ≡ Symbol a u s → i ≡ (guided_at w c).choice r
      → some (record { a = a; u = u; s = s; t = t; move = i }) ≡ top_on w c r t (guided_at w c).cell
  unfolding top_on cell_of
  on_symbol {a} {u} {s} h k = ap (λ (i : ℕ). some (record { a = a; u = u; s = s; t = t; move = i })) k ∙ on_kind h

-- ---- the top of a walk

module _ (A : Automaton) (w : Walk) {x : Cell} (e : cell_of x ≡ (guided_at w w.root).cell) where
  of_kind_lem : {y : Cell} → x ≡ y → top_of A w (cell_of y) ≡ top_of A w (guided_at w w.root).cell
  of_kind_lem h = ap (top_of A w) (ap cell_of (sym h) ∙ e)

  pub of_empty1 : x ≡ Empty1 → none ≡ top_of A w (guided_at w w.root).cell
  unfolding top_of cell_of
  of_empty1 h = of_kind_lem h

  pub of_symbol : {a u s : ℕ} → x ≡ Symbol a u s → none ≡ top_of A w (guided_at w w.root).cell
  unfolding top_of cell_of
  of_symbol h = of_kind_lem h

  pub of_empty2 : x ≡ Empty2 → none ≡ top_of A w (guided_at w w.root).cell
  unfolding top_of cell_of
  of_empty2 h = of_kind_lem h

  pub of_above : {c t i r : ℕ} {o : Option Top} → x ≡ Above c t → i ≡ (guided_at w w.root).choice w.control → r ≡ (get_or (edges A) i no_edge).first
      → o ≡ top_on w c r t (guided_at w c).cell → o ≡ top_of A w (guided_at w w.root).cell
  unfolding top_of cell_of edge_at
  of_above {c} {t} {i} {r} h k l f =
      f ∙ ap (λ (n : ℕ). top_on w c n t (guided_at w c).cell) (l ∙ ap (λ (n : ℕ). (get_or (edges A) n no_edge).first) k) ∙ of_kind_lem h

-- the top does not depend on the moves
pub top_of_moves : (z : Table) (inner entries moves : List ℕ) (w : Walk) (c : walks.Cell) → top_of (automaton_of z inner entries []) w c ≡ top_of (automaton_of z inner entries moves) w c
unfolding top_of edge_at edges
top_of_moves z inner entries moves w walks.empty1 = refl
top_of_moves z inner entries moves w (walks.symbol a u s) = refl
top_of_moves z inner entries moves w walks.empty2 = refl
top_of_moves z inner entries moves w (walks.above c t) = refl
