-- The tables that saturation leaves keep what a guided run asks of them.
-- Assumes nothing.
use Rattle.std.specs.Prelude.{ℕ, ◌/◌, ◌≤◌, min, ◌+◌, Bool, ◌≡◌, List, length}
use Rattle.std.proofs.Math.Nat.{min-le_right}
use Rattle.std.proofs.Common.{arith}
use Rattle.files.specs.Case.{case_refusal}
use Rattle.tables.specs.declared.Table.{Table}
use Rattle.saturation.specs.Running.{most_moves}
use Rattle.saturate.specs.Case.{CaseSaturated}
use Rattle.first_reading.specs.Words.{TablesFew}
use Rattle.sound_files.specs.Saturated.Laws.{table_stands}
use Rattle.guided_start.specs.Tables.{TablesStand}

pub reading_few : {z : Table} {inner entries moves sizes : List ℕ} {k : ℕ} → TablesStand z inner entries moves k sizes → TablesFew z
reading_few t = record { edges_few = t.few.edges_few; moves_few = t.few.moves_few }

pub tables_stand : {case : List ℕ} {rounds m e : ℕ} {z : Table} {k : ℕ} {more : Bool} {inner entries moves sizes : List ℕ}
    → CaseSaturated case rounds m e z k more inner entries moves sizes → case_refusal case ≡ 0 → length inner ≡ 192 → 2050 ≤ length sizes
    → TablesStand z inner entries moves (k + 1) sizes
unfolding most_moves
tables_stand {m = m} {k = k} C sound i l =
    let s = C.standing in
    let a = s.edges.edges_lent in
    let b = s.moves_few in
    let d : min (m / 5) 1024 ≤ 1024 = min-le_right (m / 5) 1024 in
    let n : k ≤ 1024 = C.sizes_few in
    record {
      stands = table_stands C sound;
      few = record { moves_few = omega arith; edges_few = omega arith };
      sizes_lent = omega arith;
      sizes_few = omega arith;
    }
