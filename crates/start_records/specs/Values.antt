-- What the values of the code stand for: starts and the fields of cells.
-- Assumes nothing.
use Rattle.std.specs.Prelude.{◌<◌, ◌^◌}
use Rattle.files.specs.Start as Files
use Rattle.start_records.specs.declared.Start.{Start}
use Rattle.start_records.specs.declared.Fields.{Fields}

abbrev pub the_start : Start → Files.Start
the_start x = record { control = x.control; root = x.root }

abbrev pub the_fields : Fields → Files.CellBytes
the_fields x = record { kind = x.kind; symbol = x.symbol; first = x.first; second = x.second }

-- the fields fit 16 bits
pub record FieldsSmall (x : Fields) : Type 0 where
  pub symbol_small : x.symbol < 2 ^ 16
  pub first_small : x.first < 2 ^ 16
  pub second_small : x.second < 2 ^ 16
