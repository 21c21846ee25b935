-- `memo_table::state_at` meets its contract.
-- Assumes nothing.
use Rattle.std.proofs.Common.{add-zero}
use Rattle.tables.specs.Rows.{row_at}
use Rattle.memo_table.proofs.state_at.Goals as goal

pub returns : goal.returns
unfolding row_at
returns c = simp add-zero
