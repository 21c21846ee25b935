-- `start_records::start_right` meets its contract.
-- Assumes nothing.
use Rattle.std.proofs.Common.{rules}
use Rattle.files.specs.Start.{start_right}
use Rattle.start_records.specs.Cells.Laws.{length_cells}
use Rattle.start_records.proofs.start_right.Goals as goal

pub returns-then-x-controls : goal.returns-then-x-controls
unfolding start_right
returns-then-x-controls c = rw length_cells (search rules)

pub returns-else-x-controls : goal.returns-else-x-controls
unfolding start_right
returns-else-x-controls c = rw length_cells (search rules)
