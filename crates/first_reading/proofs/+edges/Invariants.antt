-- `first_reading::first_edges` and `first_reading::follow` call each other. The measure is the number of states left, doubled, so that it falls
-- with each call.
use Rattle.std.proofs.Common.{◌+◌, ◌*◌, length}
use Rattle.words.specs.Sets.{members}
use Rattle.tables.specs.Records.{as_result}
use Rattle.joins.specs.Joining.{the_joins}
use Rattle.first_reading.specs.Search.{wanted}
use Rattle.first_reading.specs.Answer.{NotFoundBelow, Unchanged}
use Rattle.first_reading.specs.Words.{followed}
use Rattle.tables.specs.View.{automaton_in}
use Rattle.first_reading.proofs.+edges.Given as goal

abbrev pub decreases-first_edges : goal.decreases-first_edges
decreases-first_edges l = length (members l.left) * 2

abbrev pub decreases-follow : goal.decreases-follow
decreases-follow l = length (members l.part.others) * 2 + 1

abbrev pub invariant-first_edges-loop-e : goal.invariant-first_edges-loop-e
invariant-first_edges-loop-e l =
    NotFoundBelow l.n (followed (automaton_in l.tables) l.a (wanted (as_result l.x)) (the_joins l.order l.b l.r) l.x.s l.part.member (members l.part.others) l.names l.s) l.e
    × Unchanged l.initial.edges l.edges × Unchanged l.initial.chosen l.chosen
