-- `guided_walk::walk`: what its loops keep.
use Prim.Native.Nat.{◌-◌}
use mathlib.Core.Path.{◌≡◌}
use lib.ListN.{length}
use Rattle.saturation.specs.Held.{saturated_by}
use Rattle.results.specs.Collecting.{rules_held}
use Rattle.guided_walk.specs.Turns.{TurnFollows}
use Rattle.guided_walk.proofs.walk.Given as goal

abbrev pub invariant-loop-h : goal.invariant-loop-h
invariant-loop-h l = TurnFollows (rules_held l.rules) (saturated_by l.run) l.most l.initial.v l.initial.cells l.initial.trace l.v l.cells l.trace × (length l.cells ≡ length l.initial.cells)

abbrev pub decreases-loop-h : goal.decreases-loop-h
decreases-loop-h l = length l.trace - l.v.steps
