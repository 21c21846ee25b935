-- `guided_walk::bytes_fit` meets its contract.
-- Assumes nothing.
use native.Mathlib.Omega.{arith}
use Rattle.guided_walk.proofs.bytes_fit.Goals as goal

pub returns : goal.returns
returns c = record { fits = λ i. omega (arith, c.type_inv.body i) }
