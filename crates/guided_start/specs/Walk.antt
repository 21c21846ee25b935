-- The walk from a start: what is asked before it.
-- Assumes nothing.
pub mod Laws
use Rattle.std.specs.Prelude.{ℕ, ◌≤◌, ◌≡◌, List, length}
use Rattle.files.specs.Case.{case_refusal}
use Rattle.files.specs.Start.{cells_of}
use Rattle.tables.specs.declared.Table.{Table}
use Rattle.saturation.specs.declared.after_rounds.AfterRounds.{AfterRounds}
use Rattle.saturation.specs.Held.{saturated_in}
use Rattle.acceptance.specs.Cells.{RoundsStand}
use Rattle.sound_files.specs.Sound.{StartSound}
use Rattle.guided_start.specs.Tables.{TablesStand}

-- The words of a start file's cells, of at most 256, say since when they are accepted.
pub record StartRounds (z : Table) (inner entries moves : List ℕ) (k : ℕ) (sizes start rounds : List ℕ) : Type 0 where
  pub rounds_lent : 16384 ≤ length rounds
  pub rounds_stand : RoundsStand (saturated_in z inner entries moves k sizes) (cells_of start) rounds (length (cells_of start))

-- the same by the tables after rounds as one value
abbrev pub RoundsBy : AfterRounds → List ℕ → List ℕ → Type 0
RoundsBy r start rounds = StartRounds r.tables.table r.tables.inner.now r.tables.entries.now r.tables.moves.now r.count r.sizes.now start rounds

-- The files are sound, the tables stand, and the words are those of the start file's cells.
pub record Ready (case start : List ℕ) (z : Table) (inner entries moves : List ℕ) (k : ℕ) (sizes rounds : List ℕ) : Type 0 where
  pub case_sound : case_refusal case ≡ 0
  pub start_is : StartSound start
  pub tables : TablesStand z inner entries moves k sizes
  pub start_rounds : StartRounds z inner entries moves k sizes start rounds

-- the same by the tables after rounds as one value
abbrev pub ReadyBy : List ℕ → List ℕ → AfterRounds → List ℕ → Type 0
ReadyBy case start r rounds = Ready case start r.tables.table r.tables.inner.now r.tables.entries.now r.tables.moves.now r.count r.sizes.now rounds
