-- `premises::by_push` meets its contract.
-- Assumes nothing.
use Rattle.offers.specs.Offers.Laws.{collects_none, collects_same}
use Rattle.readings.proofs.Gathering.Laws.{nothing_read}
use Rattle.premises.specs.Reads.Laws.{push_none, push_held, push_read}
use Rattle.premises.proofs.by_push.Goals as goal

pub returns-then-not-order_fits : goal.returns-then-not-order_fits
returns-then-not-order_fits c =
    nothing_read c.args.by.now.held.table _ _ _ _ _ _ _ (collects_same (push_none c.args.to _ _ _ c.order_fits.ensures (c.if-not-order_fits.true) _) (collects_none _ _ c.requires.0.stands.number))

pub read_from-requires : goal.read_from-requires
read_from-requires c =
    (c.requires.0, push_held c.args.to _ _ _ c.order_fits.ensures (c.if-not-order_fits.false) _ _ c.requires.1)

pub returns : goal.returns
returns c =
    push_read c.args.to _ _ _ c.order_fits.ensures (c.if-not-order_fits.false) c.args.by.now.held.table _ _ c.read_from.ensures
