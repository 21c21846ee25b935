-- `choices::fewest`: what its loops keep.
use lib.ListN.{length}
use Rattle.words.specs.Sets.{members}
use Rattle.choices.specs.Fewest.{Among}
use Rattle.choices.proofs.fewest.Given as goal

abbrev pub invariant-loop-rest : goal.invariant-loop-rest
invariant-loop-rest l = Among l.left l.rest l.best

abbrev pub decreases-loop-rest : goal.decreases-loop-rest
decreases-loop-rest l = length (members l.rest)
