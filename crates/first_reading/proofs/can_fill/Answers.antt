-- `first_reading::can_fill` meets its contract.
-- Assumes nothing.
use mathlib.Core.Path.{sym, ◌∙◌}
use Rattle.first_reading.proofs.Cut.Turns.{reach_none, reach_more, fills_no_states, fills_no_B, fills_R}
use native.Mathlib.Omega.{arith}
use Rattle.first_reading.proofs.can_fill.Goals as goal
use Rattle.first_reading.proofs.can_fill.Goals.{then-part_of, else-part_of}

pub loop-i-init : goal.loop-i-init
loop-i-init c = reach_none _ _ _ _ _ _

pub loop-i-preserved : goal.loop-i-preserved
loop-i-preserved c = reach_more _ _ _ _ _ c.loop-i.invariant c.loop-i-test.true c.move_at.ensures c.reach_with-z.ensures

pub returns-then-part_of-2 : goal.returns-then-part_of-2
returns-then-part_of-2 c = elim c.if-part_of.branch [
  | then-part_of w ↦
      c.part_of-then-part_of-2.ensures
      ∙ fills_R _ _ _ _ _ c.loop-i.invariant c.loop-i-test.false (sym c.part_of.ensures ∙ w.if-part_of.true) (sym w.part_of-then-part_of.ensures ∙ sym w.value-is ∙ c.if-part_of-2.true)
  | else-part_of w ↦ grind arith
]

pub returns-else-part_of-2 : goal.returns-else-part_of-2
returns-else-part_of-2 c = elim c.if-part_of.branch [
  | then-part_of w ↦
      c.if-part_of-2.false
      ∙ fills_no_B _ _ _ _ _ c.loop-i.invariant c.loop-i-test.false (sym c.part_of.ensures ∙ w.if-part_of.true) (sym w.part_of-then-part_of.ensures ∙ sym w.value-is ∙ c.if-part_of-2.false)
  | else-part_of w ↦
      c.if-part_of-2.false
      ∙ fills_no_states _ _ _ _ _ c.loop-i.invariant c.loop-i-test.false (sym c.part_of.ensures ∙ w.if-part_of.false)
]
