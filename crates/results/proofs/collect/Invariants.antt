-- `results::collect`: what its loops keep.
use Prim.Native.Nat.{◌≤◌}
use mathlib.Core.Path.{◌≡◌}
use lib.ListN.{length}
use Rattle.move_index.specs.View.{automaton_in}
use Rattle.readings.specs.Memo.{MemoHolds}
use Rattle.results.specs.Collecting.Laws.{RulesUpTo}
use Rattle.results.proofs.collect.Given as goal

abbrev pub invariant-loop-i : goal.invariant-loop-i
invariant-loop-i l =
    (l.i ≤ l.count)
    × RulesUpTo (automaton_in l.by) l.room l.body l.initial.out l.i l.n l.out
    × MemoHolds (automaton_in l.by) l.room l.n l.out l.memo
    × (length l.memo ≡ length l.initial.memo)
