-- States of tables that name small states only are below 64.
-- Assumes nothing.
use Rattle.std.specs.Prelude.{ℕ, ◌+◌, ◌-◌, ◌<◌, ◌≡◌, refl, List, get_or, ltb}
use Rattle.std.proofs.Common.{ap, sym, ◌∙◌, subst, arith, ltb-true, ltb-false}
use Rattle.words.specs.Laws.Tests.{by_test}
use Rattle.automata.specs.Automaton.{Move, Edge, no_edge, no_move}
use Rattle.tables.specs.declared.Table.{Table}
use Rattle.tables.specs.Rows.{row_at, rows_in}
use Rattle.tables.specs.Rows.Laws.{get_or_rows_in}
use Rattle.tables.specs.Layouts.{move_row, entry_row}
use Rattle.tables.specs.Held.{edges_in}
use Rattle.tables.specs.Held.Laws.{edge_inner, edge_entry}
use Rattle.acceptance.specs.Named.{MovesNamed, EdgesNamed}

-- ---- moves and edges by number

pub move_small : {z : Table} {moves : List ℕ} {i : ℕ} {m : Move} → MovesNamed z moves → i < z.moves → m ≡ row_at move_row moves i → m.state < 64
move_small {i = i} h l e = subst (λ (k : ℕ). k < 64) (ap (λ (x : Move). x.state) (sym e)) (h.states_small i l)

pub move_row_lem : (z : Table) (moves : List ℕ) {i : ℕ} {m : Move} → i < z.moves → m ≡ row_at move_row moves i
    → m ≡ get_or (rows_in move_row z.moves moves) i no_move
move_row_lem z moves {i} l e = e ∙ sym (get_or_rows_in move_row z.moves moves i no_move l)

pub edge_small : (z : Table) (inner entries : List ℕ) (i : ℕ) {e : Edge} → EdgesNamed z inner entries → i < z.edges + z.entries
    → e ≡ get_or (edges_in z inner entries) i no_edge → e.state < 64
edge_small z inner entries i h l e =
    subst (λ (k : ℕ). k < 64) (ap (λ (x : Edge). x.state) (sym e))
    (by_test (ltb i z.edges)
    (λ t.
    let b = ltb-true i z.edges t in
    subst (λ (k : ℕ). k < 64) (ap (λ (x : Edge). x.state) (edge_inner z inner entries i b)) (h.inner_small i b))
    (λ t.
    let b = ltb-false i z.edges t in
    subst (λ (k : ℕ). k < 64) (ap (λ (x : Edge). x.state) (edge_entry z inner entries i (row_at entry_row entries (i - z.edges)) b l refl))
    (h.controls_small (i - z.edges) (omega arith))))
