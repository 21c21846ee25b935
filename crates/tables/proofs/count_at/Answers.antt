-- `tables::count_at` meets its contract.
-- Assumes nothing.
use mathlib.Core.Path.{refl}
use Rattle.tables.specs.Rows.{row_at}
use Rattle.tables.proofs.count_at.Goals as goal

pub returns : goal.returns
unfolding row_at
returns c = refl
