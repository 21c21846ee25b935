-- `premises::by_copy` meets its contract.
-- Assumes nothing.
use Rattle.premises.specs.Reads.Laws.{copy_held, copy_collected}
use Rattle.premises.proofs.by_copy.Goals as goal

pub read_edges-requires : goal.read_edges-requires
read_edges-requires c = (c.requires.0, copy_held c.args.to _ _ _ _ c.requires.1)

pub returns : goal.returns
returns c = copy_collected c.args.to _ _ _ c.read_edges.ensures
