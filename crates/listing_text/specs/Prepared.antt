-- What is asked of two files and the tables of the saturated case for the lines of the starts.
-- Assumes nothing.
pub mod Laws
use Rattle.std.specs.Prelude.{ℕ, ◌*◌, false, ◌≡◌, List}
use Rattle.std.proofs.Math.Option.{some}
use Rattle.automata.specs.Saturation.{all_rounds}
use Rattle.services.specs.Memory.{entry_width}
use Rattle.services.specs.Saturate.{saturated}
use Rattle.services.specs.Judge.{more_to_add}
use Rattle.tables.specs.declared.Table.{Table}
use Rattle.tables.specs.declared.view.Tables.{Tables}
use Rattle.tables.specs.Counts.{CountsStand}
use Rattle.sound_files.specs.Refusal.{FilesSound}
use Rattle.sound_files.specs.Saturated.{lent_of}
use Rattle.saturation.specs.declared.after_rounds.AfterRounds.{AfterRounds}
use Rattle.saturation.specs.Held.{saturated_in}
use Rattle.guided_start.specs.Tables.{TablesStand}

-- Neither file is refused, and the tables hold the case's table of all rounds, to which nothing is left to add, and which fits what the program lends,
-- with each entry the number of its moves.
pub record TableReady (case start : List ℕ) (z : Table) (inner entries moves : List ℕ) (k : ℕ) (sizes : List ℕ) : Type 0 where
  pub sound : FilesSound case start
  pub tables : TablesStand z inner entries moves k sizes
  pub counts : CountsStand z entries moves
  pub table_is : saturated (lent_of case (1024 * 5) (64 * entry_width)) all_rounds ≡ some (saturated_in z inner entries moves k sizes)
  pub nothing_left : more_to_add case (saturated_in z inner entries moves k sizes) ≡ false

-- the same by the tables as one value
abbrev pub ReadyOn : List ℕ → List ℕ → Tables → ℕ → List ℕ → Type 0
ReadyOn case start t k sizes = TableReady case start t.table t.inner.now t.entries.now t.moves.now k sizes

-- the same by the tables after rounds as one value
abbrev pub ReadyBy : List ℕ → List ℕ → AfterRounds → Type 0
ReadyBy case start r = ReadyOn case start r.tables r.count r.sizes.now
