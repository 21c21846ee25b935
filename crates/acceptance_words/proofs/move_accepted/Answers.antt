-- `acceptance_words::move_accepted` meets its contract.
-- Assumes nothing.
use Rattle.rounds.specs.Won.{move_round}
use Rattle.acceptance_words.specs.Rows.Turns.{later_both}
use Rattle.acceptance_words.proofs.move_accepted.Goals as goal

pub returns-clause-value : goal.returns-clause-value
unfolding move_round
returns-clause-value c =
    (later_both c.later.ensures (c.annotation_accepted.ensures.value, c.annotation_accepted.ensures.small) (c.accepted_by_all.ensures.value, c.accepted_by_all.ensures.small)).0

pub returns-clause-small : goal.returns-clause-small
unfolding move_round
returns-clause-small c =
    (later_both c.later.ensures (c.annotation_accepted.ensures.value, c.annotation_accepted.ensures.small) (c.accepted_by_all.ensures.value, c.accepted_by_all.ensures.small)).1
