-- `first_derivation::annotation_is` meets its contract.
-- Assumes nothing.
use native.Mathlib.Omega.{arith}
use Rattle.words.specs.Order.{same}
use Rattle.first_reading.specs.Search.{joins_key, wanted}
use Rattle.first_derivation.proofs.annotation_is.Goals as goal
use Rattle.first_derivation.proofs.annotation_is.Goals.{then-x-k, else-x-k}

pub returns-then-is_single : goal.returns-then-is_single
unfolding joins_key wanted same
returns-then-is_single c = elim c.if-x-k.branch [ then-x-k w ↦ grind arith | else-x-k w ↦ grind arith ]

pub returns-else-is_single : goal.returns-else-is_single
unfolding joins_key wanted same
returns-else-is_single c = elim c.if-x-k.branch [ then-x-k w ↦ grind arith | else-x-k w ↦ grind arith ]
