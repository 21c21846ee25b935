-- `first_reading::is_wanted` meets its contract.
-- Assumes nothing.
use native.Mathlib.Omega.{arith}
use Rattle.words.specs.Order.{same}
use Rattle.first_reading.specs.Search.{joins_key, wanted}
use Rattle.first_reading.proofs.is_wanted.Goals as goal
use Rattle.first_reading.proofs.is_wanted.Goals.{then-order-x, else-order-x}

pub returns-then-b-x : goal.returns-then-b-x
unfolding joins_key wanted same
returns-then-b-x c = grind arith

pub returns-else-b-x : goal.returns-else-b-x
unfolding joins_key wanted same
returns-else-b-x c = elim c.if-order-x.branch [ then-order-x w ↦ grind arith | else-order-x w ↦ grind arith ]
