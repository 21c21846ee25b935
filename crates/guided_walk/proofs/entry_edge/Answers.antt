-- `guided_walk::entry_edge` meets its contract.
-- Assumes nothing.
use mathlib.Core.List.{[]}
use Rattle.guided_walk.specs.Stepped.Laws.{edge_is}
use Rattle.guided_walk.proofs.entry_edge.Goals as goal

pub returns : goal.returns
returns c = edge_is c.args.z [] c.args.entry
