-- `choices::count`: what its loops keep.
use Prim.Native.Nat.{◌≤◌}
use Rattle.chains.specs.Chains.{number_after}
use Rattle.choices.proofs.count.Given as goal

abbrev pub invariant-loop-next : goal.invariant-loop-next
invariant-loop-next l = number_after l.next ≤ l.fn.z.moves

abbrev pub decreases-loop-next : goal.decreases-loop-next
decreases-loop-next l = number_after l.next
