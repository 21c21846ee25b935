-- What is asked of the tables of a case after rounds for a guided run.
-- Assumes nothing.
pub mod Laws
use Rattle.std.specs.Prelude.{ℕ, ◌*◌, ◌≤◌, List, length}
use Rattle.tables.specs.declared.Table.{Table}
use Rattle.tables.specs.declared.view.Tables.{Tables}
use Rattle.acceptance.specs.Named.{TablesNamed}
use Rattle.least_choices.specs.Starts.{Few}

-- The tables stand, with at most 64 inner edges and 1,024 moves, and the sizes, at most 1,025, are in the slice.
pub record TablesStand (z : Table) (inner entries moves : List ℕ) (k : ℕ) (sizes : List ℕ) : Type 0 where
  pub stands : TablesNamed z inner entries moves
  pub few : Few z
  pub sizes_lent : k * 2 ≤ length sizes
  pub sizes_few : k ≤ 1025

-- the same by the tables as one value
abbrev pub StandsOn : Tables → ℕ → List ℕ → Type 0
StandsOn t k sizes = TablesStand t.table t.inner.now t.entries.now t.moves.now k sizes
