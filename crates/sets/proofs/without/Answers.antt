-- `sets::without` meets its contract.
-- Assumes nothing.
use Rattle.sets.specs.Without.Laws.{without_single, bit_in}
use Rattle.sets.proofs.without.Goals as goal

pub overflow_sub-result : goal.overflow_sub-result
overflow_sub-result c = bit_in _ _ _ c.one_bit.ensures.value c.requires.1

pub returns : goal.returns
returns c = without_single _ _ _ c.one_bit.ensures.set
