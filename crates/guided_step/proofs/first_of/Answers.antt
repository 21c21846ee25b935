-- `guided_step::first_of` meets its contract.
-- Assumes nothing.
use native.Mathlib.Omega.{arith}
use Rattle.guided_step.specs.Walks.Laws.{first_past}
use Rattle.guided_step.proofs.first_of.Goals as goal

pub returns : goal.returns
returns c = first_past c.args.tables.now.table _ _ _ (omega (arith, c.if-k-edge_count.false, c.edge_count.ensures))
