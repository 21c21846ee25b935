-- The readings of edges, of those left and of their choices: what falls from call to call. The states that are left, three times, and one for
-- each step from one function to the next.
use Prim.Native.Nat.{◌+◌, ◌*◌}
use mathlib.Core.Path.{◌≡◌}
use lib.ListN.{length}
use Rattle.words.specs.Sets.{members}
use Rattle.move_index.specs.View.{automaton_in}
use Rattle.joins.specs.Joining.{the_joins}
use Rattle.readings.specs.Memo.{MemoHolds}
use Rattle.edge_readings.specs.Edges.Laws.{EdgesUpTo}
use Rattle.edge_readings.proofs.+edges.Given as goal

abbrev pub decreases-choose_left : goal.decreases-choose_left
decreases-choose_left l = length (members l.left) * 3 + 1

abbrev pub decreases-read_choices : goal.decreases-read_choices
decreases-read_choices l = length (members l.part.others) * 3 + 3

abbrev pub decreases-read_edges : goal.decreases-read_edges
decreases-read_edges l = length (members l.left) * 3 + 2

abbrev pub invariant-read_choices-loop-i : goal.invariant-read_choices-loop-i
invariant-read_choices-loop-i l =
    EdgesUpTo l.by.moves.held.table l.by.inner.now l.by.moves.held.entries.now l.by.moves.held.moves.now l.to.control l.to.symbol (the_joins l.order l.b l.r) l.part.member (members l.part.others) l.named l.s l.to.room l.n l.initial.out l.i l.k l.out
    × (length l.out ≡ length l.initial.out)
    × MemoHolds (automaton_in l.by) l.to.room l.k l.out l.memo
    × (length l.memo ≡ length l.initial.memo)
