-- `guided_step::last_up_to`: what its loops keep.
use Rattle.guided_step.specs.Earlier.Laws.{LastFrom}
use Rattle.saturation.specs.Sizes.{as_size}
use Rattle.guided_step.proofs.last_up_to.Given as goal

abbrev pub invariant-loop-j : goal.invariant-loop-j
invariant-loop-j l = LastFrom l.run.count l.run.sizes.now l.i l.j (as_size l.last)
