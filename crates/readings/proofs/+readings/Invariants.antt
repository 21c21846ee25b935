-- The readings of a state, of those left and of its moves: what falls from call to call. The members that are left, three times, and one for
-- each step from one function to the next.
use Prim.Native.Nat.{◌+◌, ◌*◌, ◌≤◌}
use mathlib.Core.Path.{◌≡◌}
use lib.ListN.{length}
use Rattle.words.specs.Sets.{members}
use Rattle.chains.specs.Chains.{number_after}
use Rattle.move_index.specs.Keys.{state_key}
use Rattle.move_index.specs.View.{table_in}
use Rattle.joins.specs.Joining.{the_joins}
use Rattle.readings.specs.Gathering.{MemoKept}
use Rattle.readings.specs.Turns.{OnChain, ReadDownTo}
use Rattle.readings.proofs.+readings.Given as goal

abbrev pub decreases-read_from : goal.decreases-read_from
decreases-read_from l = length (members l.left) * 3 + 2

abbrev pub decreases-read_left : goal.decreases-read_left
decreases-read_left l = length (members l.left) * 3 + 1

abbrev pub decreases-read_moves : goal.decreases-read_moves
decreases-read_moves l = length (members l.part.others) * 3 + 3

abbrev pub invariant-read_moves-loop-next : goal.invariant-read_moves-loop-next
invariant-read_moves-loop-next l =
    (number_after l.next ≤ l.by.held.table.moves)
    × OnChain l.by.held.moves.now (state_key l.part.member l.to.symbol) (number_after l.next)
    × ReadDownTo (table_in l.by.held) l.to.control l.to.symbol l.s (the_joins l.order l.b l.r) l.part.member (members l.part.others) l.to.room l.n l.initial.out (number_after l.next) l.k l.out
    × (length l.out ≡ length l.initial.out)
    × MemoKept l.by.held.table l.by.held.entries.now l.by.held.moves.now l.to.room l.n l.initial.out l.initial.memo l.k l.out l.memo
    × (length l.memo ≡ length l.initial.memo)

abbrev pub decreases-read_moves-loop-next : goal.decreases-read_moves-loop-next
decreases-read_moves-loop-next l = number_after l.next
