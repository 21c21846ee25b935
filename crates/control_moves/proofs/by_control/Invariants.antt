-- `control_moves::by_control`: what its loops keep.
use mathlib.Core.Path.{◌≡◌}
use lib.ListN.{length}
use Rattle.move_index.specs.View.{automaton_in}
use Rattle.readings.specs.Memo.{MemoHolds}
use Rattle.control_moves.specs.Control.Laws.{ControlUpTo}
use Rattle.control_moves.proofs.by_control.Given as goal

abbrev pub invariant-loop-e : goal.invariant-loop-e
invariant-loop-e l =
    ControlUpTo l.by.moves.held.table l.by.inner.now l.by.moves.held.entries.now l.by.moves.held.moves.now l.to.control l.to.symbol l.from.kind l.from.symbol l.from.control l.to.room l.n l.initial.out l.e l.k l.out
    × (length l.out ≡ length l.initial.out)
    × MemoHolds (automaton_in l.by) l.to.room l.k l.out l.memo
    × (length l.memo ≡ length l.initial.memo)
