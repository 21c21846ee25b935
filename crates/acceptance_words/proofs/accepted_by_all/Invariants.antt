-- `acceptance_words::accepted_by_all`: what its loops keep.
use lib.ListN.{length}
use Rattle.words.specs.Sets.{members}
use Rattle.acceptance_words.specs.Rows.{round_in}
use Rattle.acceptance_words.specs.Rows.Laws.{LatestBut}
use Rattle.acceptance_words.proofs.accepted_by_all.Given as goal

abbrev pub invariant-loop-left : goal.invariant-loop-left
invariant-loop-left l = LatestBut (round_in l.rounds l.cell) l.set l.left l.all

abbrev pub decreases-loop-left : goal.decreases-loop-left
decreases-loop-left l = length (members l.left)
