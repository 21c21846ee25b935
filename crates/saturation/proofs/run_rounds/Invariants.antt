-- `saturation::run_rounds`: what its loops keep.
use Prim.Native.Nat.{◌-◌}
use mathlib.Core.Path.{◌≡◌}
use lib.ListN.{length}
use Rattle.results.specs.Collecting.{rules_in}
use Rattle.saturation.specs.Prepared.{Prepared}
use Rattle.saturation.specs.Turns.{Underway, Follows}
use Rattle.saturation.proofs.run_rounds.Given as goal

abbrev pub invariant-loop-r : goal.invariant-loop-r
invariant-loop-r l =
    Follows (rules_in l.count l.body) l.inner l.rounds l.initial.at.table 0 l.initial.entries l.initial.moves l.initial.sizes l.at.table l.at.run l.entries l.moves l.sizes
    × Underway l.inner l.rounds l.at.table l.at.run l.entries l.moves
    × Prepared (rules_in l.count l.body) l.inner l.at.table l.entries l.moves l.at.before l.work.states l.work.words l.work.memo
    × (length l.pending ≡ length l.initial.pending)
    × (length l.sizes ≡ length l.initial.sizes)

abbrev pub decreases-loop-r : goal.decreases-loop-r
decreases-loop-r l = 1025 - l.at.table.moves
