-- `acceptance_words::edge_accepted` meets its contract.
-- Assumes nothing.
use Rattle.rounds.specs.Won.{edge_round}
use Rattle.acceptance_words.specs.Rows.Turns.{later_both}
use Rattle.acceptance_words.proofs.edge_accepted.Goals as goal

pub returns-clause-value : goal.returns-clause-value
unfolding edge_round
returns-clause-value c =
    (later_both c.later.ensures (c.accepted.ensures.value, c.accepted.ensures.small) (c.accepted_by_all.ensures.value, c.accepted_by_all.ensures.small)).0

pub returns-clause-small : goal.returns-clause-small
unfolding edge_round
returns-clause-small c =
    (later_both c.later.ensures (c.accepted.ensures.value, c.accepted.ensures.small) (c.accepted_by_all.ensures.value, c.accepted_by_all.ensures.small)).1
