-- `tables::insertion::words_before` meets its contract. The invariant: the first i words are the same.
-- Assumes nothing.
use Rattle.tables.specs.Insertion.Words.{same_more, differ_at, same_all}
use Rattle.tables.proofs.insertion.words_before.Goals as goal

pub returns-then-x-i : goal.returns-then-x-i
returns-then-x-i c = differ_at _ _ c.requires _ c.loop-i.invariant c.loop-i-test.true c.if-x-i.true

pub loop-i-preserved : goal.loop-i-preserved
loop-i-preserved c = same_more _ _ c.requires _ c.loop-i.invariant c.loop-i-test.true c.if-x-i.false

pub returns : goal.returns
returns c = same_all _ _ c.requires _ c.loop-i.invariant c.loop-i-test.false
