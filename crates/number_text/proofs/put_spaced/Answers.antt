-- `number_text::put_spaced` meets its contract.
-- Assumes nothing.
use borrow.Author.Rules.{rules}
use Rattle.services.specs.Listing.{ascii}
use Rattle.number_text.specs.Numbers.Laws.{spaced_none, spaced_next}
use Rattle.number_text.proofs.put_spaced.Goals as goal

pub loop-n-init : goal.loop-n-init
loop-n-init c = spaced_none _ _ _

pub loop-n-preserved : goal.loop-n-preserved
unfolding ascii
loop-n-preserved c =
    spaced_next c.loop-n.invariant (search rules) c.from.ensures (search rules) c.put_text-number.ensures c.put_decimal-end.ensures.written
