-- `edge_readings::name` meets its contract.
-- Assumes nothing.
use mathlib.Core.Path.{ap}
use native.Mathlib.Omega.{arith}
use Rattle.chains.specs.Chains.{number_after}
use Rattle.edge_readings.specs.Naming.Laws.{name_same, name_more}
use Rattle.edge_readings.proofs.name.Goals as goal

pub returns-in-Some : goal.returns-in-Some
returns-in-Some c = name_same _ _ _ (omega (arith, ap number_after c.in-Some.is))

pub returns-in-None : goal.returns-in-None
returns-in-None c = name_more _ _ _ _ _ (λ h. omega (arith, h, ap number_after c.in-None.is)) c.one_bit.ensures.set c.join.ensures
