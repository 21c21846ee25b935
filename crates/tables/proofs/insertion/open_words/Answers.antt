-- `tables::insertion::open_words` meets its contract. The invariant: the words from number j on have been moved.
-- Assumes nothing.
use Rattle.tables.specs.Insertion.Words.{opened_more}
use Rattle.tables.proofs.insertion.open_words.Goals as goal

pub loop-j-preserved : goal.loop-j-preserved
loop-j-preserved c = opened_more _ _ _ _ c.requires.1 _ _ c.loop-j.invariant c.loop-j-test.true
