-- `first_derivation::rest_is` meets its contract.
-- Assumes nothing.
use native.Mathlib.Omega.{arith}
use Rattle.words.specs.Order.{same}
use Rattle.first_reading.specs.Search.{joins_key, wanted}
use Rattle.first_derivation.proofs.rest_is.Goals as goal
use Rattle.first_derivation.proofs.rest_is.Goals.{then-x-eq0, else-x-eq0}

pub returns-then-x-eq0-2 : goal.returns-then-x-eq0-2
unfolding joins_key wanted same
returns-then-x-eq0-2 c = grind arith

pub returns-else-x-eq0-2 : goal.returns-else-x-eq0-2
unfolding joins_key wanted same
returns-else-x-eq0-2 c = elim c.if-x-eq0.branch [ then-x-eq0 w ↦ grind arith | else-x-eq0 w ↦ grind arith ]
