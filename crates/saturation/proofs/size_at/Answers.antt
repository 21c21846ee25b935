-- `saturation::size_at` meets its contract.
-- Assumes nothing.
use native.Mathlib.Nat.{add-zero}
use Rattle.tables.specs.Rows.{row_at}
use Rattle.saturation.proofs.size_at.Goals as goal

pub returns : goal.returns
unfolding row_at
returns c = simp add-zero
