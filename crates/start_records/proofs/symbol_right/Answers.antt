-- `start_records::symbol_right` meets its contract.
-- Assumes nothing.
use Rattle.std.proofs.Common.{rules}
use Rattle.start_records.specs.Cells.{symbol_right}
use Rattle.start_records.proofs.symbol_right.Goals as goal

pub returns-then-x-below : goal.returns-then-x-below
unfolding symbol_right
returns-then-x-below c = search rules

pub returns-else-x-below : goal.returns-else-x-below
unfolding symbol_right
returns-else-x-below c = search rules
