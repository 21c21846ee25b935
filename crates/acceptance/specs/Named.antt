-- What is asked of the tables of an automaton whose acceptance is worked out for 64 states: the states that they name are below 64.
-- Assumes nothing.
pub mod Laws
use Rattle.std.specs.Prelude.{ℕ, ◌*◌, ◌≤◌, ◌<◌, List, length}
use Rattle.words.proofs.Sets.Laws.{All}
use Rattle.tables.specs.declared.Table.{Table}
use Rattle.tables.specs.declared.view.Tables.{Tables}
use Rattle.tables.specs.Rows.{row_at}
use Rattle.tables.specs.Layouts.{move_row, entry_row, edge_row}
use Rattle.tables.specs.Held.{EdgesStand, EntriesStand}

-- The moves are in the slice, and their states are below 64.
pub record MovesNamed (z : Table) (moves : List ℕ) : Type 0 where
  pub moves_lent : z.moves * 5 ≤ length moves
  pub states_small : (i : ℕ) → i < z.moves → (row_at move_row moves i).state < 64

-- The states of the inner edges and the controls of the entries are below 64.
pub record EdgesNamed (z : Table) (inner entries : List ℕ) : Type 0 where
  pub inner_small : (i : ℕ) → i < z.edges → (row_at edge_row inner i).state < 64
  pub controls_small : (i : ℕ) → i < z.entries → (row_at entry_row entries i).control < 64

-- The final states are below 64.
pub record FinalsNamed (z : Table) : Type 0 where
  pub final1_small : All z.final1 (λ r. r < 64)
  pub final2_small : All z.final2 (λ q. q < 64)

-- All that is asked of the three tables.
pub record TablesNamed (z : Table) (inner entries moves : List ℕ) : Type 0 where
  pub edges_stand : EdgesStand z inner
  pub entries_stand : EntriesStand z entries
  pub edges_named : EdgesNamed z inner entries
  pub moves_named : MovesNamed z moves
  pub finals_named : FinalsNamed z

-- the same by the tables as one value
abbrev pub NamedIn : Tables → Type 0
NamedIn t = TablesNamed t.table t.inner.now t.entries.now t.moves.now
