-- `control_moves::by_entry_moves`: what its loops keep.
use Prim.Native.Nat.{◌+◌, ◌≤◌}
use mathlib.Core.Path.{◌≡◌}
use lib.ListN.{length}
use Rattle.chains.specs.Chains.{number_after}
use Rattle.move_index.specs.View.{automaton_in}
use Rattle.move_index.specs.Keys.{state_key}
use Rattle.readings.specs.Memo.{MemoHolds}
use Rattle.readings.specs.Turns.{OnChain}
use Rattle.control_moves.specs.Control.{ChainDownTo}
use Rattle.control_moves.proofs.by_entry_moves.Given as goal

abbrev pub invariant-loop-next : goal.invariant-loop-next
invariant-loop-next l =
    (number_after l.next ≤ l.by.moves.held.table.moves)
    × OnChain l.by.moves.held.moves.now (state_key (l.by.moves.held.table.inner1 + l.e) l.from.symbol) (number_after l.next)
    × ChainDownTo (automaton_in l.by) l.to.control l.to.symbol l.from.kind l.from.symbol l.from.control l.e l.to.room l.n l.initial.out (number_after l.next) l.k l.out
    × (length l.out ≡ length l.initial.out)
    × MemoHolds (automaton_in l.by) l.to.room l.k l.out l.memo
    × (length l.memo ≡ length l.initial.memo)

abbrev pub decreases-loop-next : goal.decreases-loop-next
decreases-loop-next l = number_after l.next
