-- `case_file::entries_in` meets its contract. The invariant: the count is the number of entries among the first i edges.
-- Assumes nothing.
use Rattle.words.specs.Lists.{only}
use Rattle.files.specs.Bytes.{records}
use Rattle.files.specs.Case.{entries_of}
use Rattle.case_file.specs.Laws.Bodies.{entries_more}
use borrow.Author.Rules.{rules}
use Rattle.case_file.proofs.entries_in.Goals as goal

pub loop-i-init : goal.loop-i-init
unfolding entries_of only records
loop-i-init c = search rules

pub loop-i-preserved : goal.loop-i-preserved
loop-i-preserved c =
    (entries_more _ _ _ _ _ _ c.loop-i.invariant.0 c.entry_count-count.ensures.value c.edge_at.ensures, search rules)
