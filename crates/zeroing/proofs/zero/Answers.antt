-- `zeroing::zero` meets its contract.
-- Assumes nothing.
use Rattle.zeroing.specs.Zeroed.Laws.{zeroed_none, zeroed_more, zeroed_all}
use borrow.Author.Rules.{rules}
use Rattle.zeroing.proofs.zero.Goals as goal

pub loop-word-init : goal.loop-word-init
loop-word-init g c = zeroed_none _ _

pub loop-word-preserved : goal.loop-word-preserved
loop-word-preserved g c = zeroed_more _ _ _ _ _ c.ZERO.ensures c.loop-word.invariant (search rules)

pub returns : goal.returns
returns g c = zeroed_all _ _ _ _ c.loop-word.invariant (search rules)
