-- What holds of the automaton that three tables hold.
-- Assumes nothing.
use Rattle.std.specs.Prelude.{ℕ, ◌+◌, ◌-◌, ◌≤◌, ◌<◌, false, ◌≡◌, List, get_or, unwrap_or, Some, None, Option as Answer}
use Rattle.std.proofs.Math.Path.{ap, sym}
use Rattle.std.proofs.Common.{ap₂, ◌∙◌, subst, arith, length-append, get_or-append-add}
use Rattle.std.proofs.Math.Option.{Option, some}
use Rattle.std.proofs.Math.ListN.{length, get_or-append, get_or-eq_default}
use borrow.Author.Tests.{le-leb, lt-leb}
use Rattle.words.specs.Lists.Laws.{get_elem?_below, get_elem?_past}
use Rattle.automata.specs.Automaton.{Automaton, Move, Edge, Entry, no_move, no_edge, no_entry, move_at, entry_edges, entry_at, entry_of, entry_control, entry_set}
use Rattle.automata.specs.Automaton.Laws.{entry_at_control, entry_at_set, entry_edges_at, length_entry_edges}
use Rattle.tables.specs.declared.Table.{Table}
use Rattle.tables.specs.declared.Entry.{Entry as EntryWords}
use Rattle.tables.specs.Records.{as_entry}
use Rattle.tables.specs.Rows.{row_at, rows_in}
use Rattle.tables.specs.Rows.Laws.{length_rows_in, get_or_rows_in}
use Rattle.tables.specs.Layouts.{move_row, entry_row, edge_row}
use Rattle.tables.specs.Held.{automaton_of, table_of, edges_in, found_entry, entry_for, EdgesStand}

-- ---- edges by number

pub first_small : (z : Table) (inner : List ℕ) (n : ℕ) (e : Edge) → EdgesStand z inner → n < z.edges → e ≡ row_at edge_row inner n → e.first < 64
first_small z inner n e h l q = subst (λ (k : ℕ). k < 64) (ap (λ (x : Edge). x.first) (sym q)) (h.firsts_small n l)

module _ (z : Table) (inner entries : List ℕ) where
  pub length_edges_in : length (edges_in z inner entries) ≡ z.edges + z.entries
  length_edges_in =
      length-append (rows_in edge_row z.edges inner) (entry_edges z.inner1 (rows_in entry_row z.entries entries))
      ∙ ap₂ ◌+◌ (length_rows_in edge_row z.edges inner)
      (length_entry_edges z.inner1 (rows_in entry_row z.entries entries) ∙ length_rows_in entry_row z.entries entries)

  pub edge_inner : (n : ℕ) → n < z.edges → row_at edge_row inner n ≡ get_or (edges_in z inner entries) n no_edge
  edge_inner n h =
      let len : length (rows_in edge_row z.edges inner) ≡ z.edges = length_rows_in edge_row z.edges inner in
      sym
      (get_or-append (rows_in edge_row z.edges inner) (entry_edges z.inner1 (rows_in entry_row z.entries entries)) no_edge n (omega arith)
      ∙ get_or_rows_in edge_row z.edges inner n no_edge h)

  pub edge_entry : (n : ℕ) (e : Entry) → z.edges ≤ n → n < z.edges + z.entries → e ≡ row_at entry_row entries (n - z.edges)
      → record { state = e.control; first = z.inner1 + (n - z.edges); S = e.S } ≡ get_or (edges_in z inner entries) n no_edge
  edge_entry n e h l q =
      let inside : List Edge = rows_in edge_row z.edges inner in
      let es : List Entry = rows_in entry_row z.entries entries in
      let k : ℕ = n - z.edges in
      let len : length inside ≡ z.edges = length_rows_in edge_row z.edges inner in
      let len_e : length es ≡ z.entries = length_rows_in entry_row z.entries entries in
      let at : n ≡ length inside + k = omega arith in
      let is : get_or es k no_entry ≡ e = get_or_rows_in entry_row z.entries entries k no_entry (omega arith) ∙ sym q in
      sym
      (ap (λ (i : ℕ). get_or (edges_in z inner entries) i no_edge) at
      ∙ get_or-append-add inside (entry_edges z.inner1 es) k no_edge
      ∙ entry_edges_at z.inner1 es k (omega arith)
      ∙ ap (λ (x : Entry). record { state = x.control; first = z.inner1 + k; S = x.S }) is)

-- ---- a move by number

pub row_move : (z : Table) (inner entries moves : List ℕ) (i : ℕ) (m : Move) → i < z.moves → m ≡ row_at move_row moves i
    → m ≡ move_at (automaton_of z inner entries moves) i
unfolding move_at
row_move z inner entries moves i m below is = is ∙ sym (get_or_rows_in move_row z.moves moves i no_move below)

-- ---- the entry that an order-1 state is

module _ (z : Table) (entries moves : List ℕ) (r : ℕ) where
  pub entry_at_inner : r < z.inner1 → entry_at (table_of z entries moves) r ≡ Option.none
  unfolding entry_at
  entry_at_inner h = rw (entry_at, lt-leb z.inner1 r h)

  pub entry_at_past : z.inner1 ≤ r → z.entries ≤ r - z.inner1 → entry_at (table_of z entries moves) r ≡ Option.none
  unfolding entry_at
  entry_at_past h l =
      let len : length (rows_in entry_row z.entries entries) ≡ z.entries = length_rows_in entry_row z.entries entries in
      rw (entry_at, le-leb z.inner1 r h) (get_elem?_past (rows_in entry_row z.entries entries) (r - z.inner1) (omega arith))

  pub entry_at_there : (e : Entry) → z.inner1 ≤ r → r - z.inner1 < z.entries → e ≡ row_at entry_row entries (r - z.inner1)
      → entry_at (table_of z entries moves) r ≡ some e
  unfolding entry_at
  entry_at_there e h l q =
      let len : length (rows_in entry_row z.entries entries) ≡ z.entries = length_rows_in entry_row z.entries entries in
      rw (entry_at, le-leb z.inner1 r h)
      (get_elem?_below (rows_in entry_row z.entries entries) (r - z.inner1) no_entry (omega arith)
      ∙ ap some (get_or_rows_in entry_row z.entries entries (r - z.inner1) no_entry l ∙ sym q))

module _ (A : Automaton) (r : ℕ) where
  pub none_of : (p : ℕ) → entry_at A r ≡ Option.none → entry_of A p r ≡ false
  unfolding entry_of
  none_of p h = rw (entry_of, h)

  pub none_set : entry_at A r ≡ Option.none → entry_set A r ≡ 0
  unfolding entry_set
  none_set h = rw (entry_set, h)

  pub for_none : entry_at A r ≡ Option.none → no_entry ≡ entry_for A r
  unfolding entry_control entry_set
  for_none e = rw (entry_control, entry_set, e)

  pub for_some : {x : Entry} → entry_at A r ≡ some x → x ≡ entry_for A r
  for_some {x} e = λ i. record { control = sym (entry_at_control A r e) i; S = sym (entry_at_set A r e) i }

  pub for_found : (o : Answer EntryWords) → found_entry o ≡ entry_at A r → as_entry (unwrap_or o (record { control = 0; s = 0 })) ≡ entry_for A r
  for_found None e = for_none (sym e)
  for_found (Some x) e = for_some (sym e)

-- ---- moves by number

module _ (n : ℕ) (moves : List ℕ) (i : ℕ) where
  pub move_there : {m : Move} → i < n → m ≡ row_at move_row moves i → m ≡ get_or (rows_in move_row n moves) i no_move
  move_there h e = e ∙ sym (get_or_rows_in move_row n moves i no_move h)

  pub move_past : n ≤ i → no_move ≡ get_or (rows_in move_row n moves) i no_move
  move_past h =
      let l : length (rows_in move_row n moves) ≡ n = length_rows_in move_row n moves in
      sym (get_or-eq_default (rows_in move_row n moves) no_move (omega arith))
