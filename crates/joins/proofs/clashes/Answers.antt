-- `joins::clashes` meets its contract.
-- Assumes nothing.
use native.Mathlib.Omega.{arith}
use Rattle.automata.specs.Derivation.{clash}
use Rattle.joins.proofs.clashes.Goals as goal
use Rattle.joins.proofs.clashes.Goals.{then-k-ne0, else-k-ne0}

pub returns-then-l-ne0 : goal.returns-then-l-ne0
unfolding clash
returns-then-l-ne0 c = grind arith

pub returns-else-l-ne0 : goal.returns-else-l-ne0
unfolding clash
returns-else-l-ne0 c = elim c.if-k-ne0.branch [ then-k-ne0 w ↦ grind arith | else-k-ne0 w ↦ grind arith ]
