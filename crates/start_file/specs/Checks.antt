-- The checks of a start file, record by record, and its refusal by its tests.
-- Assumes nothing.
pub mod Laws
use Rattle.std.specs.Prelude.{ℕ, Bool, true, false, ◌≡◌, List, map}
use Rattle.words.specs.Lists.{every}
use Rattle.files.specs.Bytes.{records}
use Rattle.files.specs.Start.{Files, start_placed, cell_bytes, starts_of, cell_records, start_right, cells_right}
use Rattle.bytes_in.specs.Records.{records_from}

-- a case file and a start file
abbrev pub files_of : List ℕ → List ℕ → Files
files_of case start = record { case = case; start = start }

-- the number of the first of three tests that fails: the bodies are in place, the starts and the cells keep their bounds
unfoldable pub refusal_by : Bool → Bool → Bool → ℕ
refusal_by false starts cells = 5
refusal_by true false cells = 6
refusal_by true true false = 6
refusal_by true true true = 0

-- the refusal of a start file for a case with P controls and A symbols, or 0
unfoldable pub refusal_for : ℕ → ℕ → List ℕ → ℕ
refusal_for P A start =
    refusal_by (start_placed start)
    (every (start_right P (cell_records start)) (starts_of start))
    (cells_right A (cell_records start) 0 (cell_records start))
