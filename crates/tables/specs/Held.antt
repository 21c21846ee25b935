-- The automaton that three tables hold, and what is asked of the tables.
-- Assumes nothing.
pub mod Laws
use Rattle.std.specs.Prelude.{ℕ, ◌+◌, ◌*◌, ◌≤◌, ◌<◌, List, [], ◌++◌, length, Some, None, Option as Answer}
use Rattle.std.proofs.Math.Option.{Option, none, some}
use Rattle.automata.specs.Automaton.{Automaton, Edge, Entry, entry_edges, entry_control, entry_set}
use Rattle.services.specs.Memory.{entry_width}
use Rattle.tables.specs.declared.Table.{Table}
use Rattle.tables.specs.declared.Entry.{Entry as EntryWords}
use Rattle.tables.specs.Rows.{row_at, rows_in}
use Rattle.tables.specs.Records.{as_entry}
use Rattle.tables.specs.Layouts.{move_row, entry_row, edge_row}

-- the automaton, by the words of its inner edges, entries and moves
abbrev pub automaton_of : Table → List ℕ → List ℕ → List ℕ → Automaton
automaton_of z inner entries moves =
    record {
      J = z.inner1;
      final1 = z.final1;
      final2 = z.final2;
      inner = rows_in edge_row z.edges inner;
      entries = rows_in entry_row z.entries entries;
      moves = rows_in move_row z.moves moves;
    }

-- the same without its inner edges, for what does not depend on them
abbrev pub table_of : Table → List ℕ → List ℕ → Automaton
table_of z entries moves =
    record {
      J = z.inner1;
      final1 = z.final1;
      final2 = z.final2;
      inner = [];
      entries = rows_in entry_row z.entries entries;
      moves = rows_in move_row z.moves moves;
    }

-- all its edges
abbrev pub edges_in : Table → List ℕ → List ℕ → List Edge
edges_in z inner entries = rows_in edge_row z.edges inner ++ entry_edges z.inner1 (rows_in entry_row z.entries entries)

-- the entry that was found
abbrev pub found_entry : Answer EntryWords → Option Entry
found_entry None = none
found_entry (Some e) = some (as_entry e)

-- the entry that order-1 state r is, or the entry of zeros
abbrev pub entry_for : Automaton → ℕ → Entry
entry_for A r = record { control = entry_control A r; S = entry_set A r }

-- The inner edges are in the slice, and the order-1 states that they name are below 64.
pub record EdgesStand (z : Table) (inner : List ℕ) : Type 0 where
  pub edges_lent : z.edges * 3 ≤ length inner
  pub firsts_small : (i : ℕ) → i < z.edges → (row_at edge_row inner i).first < 64

-- The entries are in the slice, and there are at most 64 order-1 states.
pub record EntriesStand (z : Table) (entries : List ℕ) : Type 0 where
  pub entries_lent : z.entries * entry_width ≤ length entries
  pub states_few : z.inner1 + z.entries ≤ 64

-- The moves are in the slice.
pub record MovesStand (z : Table) (moves : List ℕ) : Type 0 where
  pub moves_lent : z.moves * 5 ≤ length moves
