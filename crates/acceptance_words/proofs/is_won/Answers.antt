-- `acceptance_words::is_won` meets its contract.
-- Assumes nothing.
use Rattle.rounds.specs.Won.{is_won}
use Rattle.acceptance_words.proofs.is_won.Goals as goal

pub returns-in-Since : goal.returns-in-Since
unfolding is_won
returns-in-Since c = rw c.in-Since.is

pub returns-in_default : goal.returns-in_default
unfolding is_won
returns-in_default c = rw c.in_default.is
