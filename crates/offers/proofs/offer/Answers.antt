-- `offers::offer` meets its contract.
-- Assumes nothing.
use mathlib.Core.Path.{sym, ◌∙◌}
use Rattle.offers.specs.Offers.Laws.{collects_over, collects_held, collects_new}
use Rattle.offers.proofs.offer.Goals as goal
use Rattle.offers.proofs.offer.Goals.{then-room-n-via-then-room-n, then-room-n-via-else-room-n+then-is_held}

pub returns-then-room-n : goal.returns-then-room-n
returns-then-room-n c = elim c.then-room-n.branch [
  | then-room-n-via-then-room-n w ↦ collects_over _ _ _ c.requires.number w.if-room-n.true
  | then-room-n-via-else-room-n+then-is_held w ↦ collects_held _ c.requires.number (sym w.is_held.ensures ∙ w.if-is_held.true)
]

pub returns : goal.returns
returns c =
    collects_new _ c.insert_result.ensures.upper_bound (sym c.is_held.ensures ∙ c.if-is_held.false) c.insert_result.ensures.t_after
