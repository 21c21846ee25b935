-- `guided_start::not_accepted` meets its contract.
-- Assumes nothing.
use mathlib.Core.Path.{ap, sym}
use Rattle.guided_start.specs.Run.{unaccepted}
use Rattle.guided_start.proofs.not_accepted.Goals as goal

pub returns-then-more : goal.returns-then-more
unfolding unaccepted
returns-then-more c = sym (ap unaccepted c.if-more.true)

pub returns-else-more : goal.returns-else-more
unfolding unaccepted
returns-else-more c = sym (ap unaccepted c.if-more.false)
