-- `saturation::limits_of` meets its contract.
-- Assumes nothing.
use Rattle.saturation.specs.Running.{most_moves, most_entries}
use borrow.Author.Rules.{rules}
use Rattle.saturation.proofs.limits_of.Goals as goal

pub returns : goal.returns
unfolding most_moves most_entries
returns c = search rules
