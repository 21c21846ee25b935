-- `acceptance_words::later` meets its contract.
-- Assumes nothing.
use mathlib.Core.Path.{ap}
use Rattle.replies.specs.declared.Acceptance.TheVariants.{Since}
use Rattle.rounds.specs.Won.{later}
use Rattle.acceptance_words.proofs.later.Goals as goal

pub returns-in-Never-default : goal.returns-in-Never-default
unfolding later
returns-in-Never-default c = rw c.in-Never-default.is-0

pub returns-in_default-Never : goal.returns-in_default-Never
unfolding later
returns-in_default-Never c = rw (c.in_default-Never.is-0, c.in_default-Never.is-1)

pub returns-in-Since-Since : goal.returns-in-Since-Since
unfolding later
returns-in-Since-Since c = rw (c.in-Since-Since.is-0, c.in-Since-Since.is-1) (ap Since c.max.ensures)
