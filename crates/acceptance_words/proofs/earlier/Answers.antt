-- `acceptance_words::earlier` meets its contract.
-- Assumes nothing.
use mathlib.Core.Path.{ap}
use Rattle.replies.specs.declared.Acceptance.TheVariants.{Since}
use Rattle.rounds.specs.Won.{earlier}
use Rattle.acceptance_words.proofs.earlier.Goals as goal

pub returns-in-Never-default : goal.returns-in-Never-default
unfolding earlier
returns-in-Never-default c = rw c.in-Never-default.is-0

pub returns-in_default-Never : goal.returns-in_default-Never
unfolding earlier
returns-in_default-Never c = rw (c.in_default-Never.is-0, c.in_default-Never.is-1)

pub returns-in-Since-Since : goal.returns-in-Since-Since
unfolding earlier
returns-in-Since-Since c = rw (c.in-Since-Since.is-0, c.in-Since-Since.is-1) (ap Since c.min.ensures)
