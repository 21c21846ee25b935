-- `first_reading::first_reading` and `first_reading::read_with` call each other. The measure is the number of states left, doubled, so that it
-- falls with each call.
use Rattle.std.proofs.Common.{◌+◌, ◌*◌, length}
use Rattle.words.specs.Sets.{members}
use Rattle.tables.specs.Records.{as_result}
use Rattle.joins.specs.Joining.{the_joins}
use Rattle.first_reading.specs.Search.{wanted}
use Rattle.first_reading.specs.Answer.{NotFoundBelow, Unchanged}
use Rattle.first_reading.specs.Words.{moves_in, tried}
use Rattle.first_reading.proofs.+readings.Given as goal

abbrev pub decreases-first_reading : goal.decreases-first_reading
decreases-first_reading l = length (members l.left) * 2

abbrev pub decreases-read_with : goal.decreases-read_with
decreases-read_with l = length (members l.part.others) * 2 + 1

abbrev pub invariant-first_reading-loop-i : goal.invariant-first_reading-loop-i
invariant-first_reading-loop-i l =
    NotFoundBelow l.n (tried (moves_in l.n l.moves) l.a (wanted (as_result l.x)) l.part.member (members l.part.others) (the_joins l.order l.b l.r)) l.i
    × Unchanged l.initial.chosen l.chosen
