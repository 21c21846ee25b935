-- `first_derivation::by_push` meets its contract.
-- Assumes nothing.
use mathlib.Core.Path.{sym, ◌∙◌}
use native.Mathlib.Omega.{arith}
use Rattle.first_reading.specs.Answer.Laws.{answer_none, answer_is}
use Rattle.first_derivation.specs.Premises.Laws.{pushed_order, pushed_set, pushed_read}
use Rattle.first_derivation.proofs.by_push.Goals as goal
use Rattle.first_derivation.proofs.by_push.Goals.{then-s-x, else-s-x}

pub returns-then-order_fits : goal.returns-then-order_fits
returns-then-order_fits c = elim c.if-s-x.branch [
  | then-s-x w ↦
      pushed_read _ _ _ _ _ _ _ (sym w.order_fits.ensures ∙ sym w.value-is ∙ c.if-order_fits.true) w.if-s-x.true c.first_reading.ensures
  | else-s-x w ↦ grind arith
]

pub returns-else-order_fits : goal.returns-else-order_fits
returns-else-order_fits c =
    answer_is (sym c.if-order_fits.false)
    (answer_none _
    (elim c.if-s-x.branch [
      | then-s-x w ↦ pushed_order _ _ _ _ _ _ _ (sym w.order_fits.ensures ∙ sym w.value-is ∙ c.if-order_fits.false)
      | else-s-x w ↦ pushed_set _ _ _ _ _ _ _ w.if-s-x.false
    ]))
