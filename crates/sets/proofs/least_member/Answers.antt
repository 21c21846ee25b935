-- `sets::least_member` meets its contract.
-- Assumes nothing.
use native.Mathlib.Omega.{arith}
use Rattle.sets.specs.Halving.Laws.{bit_below, least_found}
use Rattle.sets.proofs.least_member.Goals as goal

pub overflow_sub-result : goal.overflow_sub-result
overflow_sub-result c = bit_below c.requires (omega arith) c.from-member.ensures c.one_bit.ensures.value

pub returns-clause-s_value : goal.returns-clause-s_value
returns-clause-s_value c = least_found c.requires (omega arith) c.from-member.ensures c.one_bit.ensures.value
