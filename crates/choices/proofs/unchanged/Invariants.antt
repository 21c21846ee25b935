-- `choices::unchanged`: what its loops keep.
use Rattle.chains.specs.Chains.{number_after}
use Rattle.joins.specs.Joining.{as_joins}
use Rattle.choices.specs.Unchanged.{Walked}
use Rattle.choices.proofs.unchanged.Given as goal

abbrev pub invariant-loop-next : goal.invariant-loop-next
invariant-loop-next l =
    Walked l.moves l.fn.z.moves l.q l.a (as_joins l.j) (number_after l.next) (number_after l.oldest)

abbrev pub decreases-loop-next : goal.decreases-loop-next
decreases-loop-next l = number_after l.next
