-- `sets::one_bit` meets its contract.
-- Assumes nothing.
use Rattle.words.specs.Sets.{single}
use Rattle.words.proofs.Sets.Laws.{one_shifted}
use Rattle.sets.proofs.one_bit.Goals as goal

pub returns-clause-set : goal.returns-clause-set
unfolding single
returns-clause-set c = one_shifted 64 _ c.requires
