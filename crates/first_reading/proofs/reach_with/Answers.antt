-- `first_reading::reach_with` meets its contract.
-- Assumes nothing.
use Prim.Native.Nat.{◌≤◌}
use mathlib.Core.Path.{ap, sym, ◌∙◌}
use native.Mathlib.Omega.{arith}
use Rattle.joins.specs.Joining.{as_joined}
use Rattle.first_reading.proofs.Cut.Turns.{turn_other, turn_past, turn_nothing, turn_more}
use Rattle.first_reading.proofs.reach_with.Goals as goal
use Rattle.first_reading.proofs.reach_with.Goals.{then-q-via-then-q, then-q-via-else-q+then-not-has}

pub returns-then-q : goal.returns-then-q
returns-then-q c = elim c.then-q.branch [
  | then-q-via-then-q w ↦
      let past : 64 ≤ c.args.m.state = omega (arith, w.if-q.true) in
      turn_past _ _ _ _ _ _ past (omega arith)
  | then-q-via-else-q+then-not-has w ↦ turn_other _ _ _ _ _ _ (sym w.has.ensures ∙ w.if-not-has.true)
]

pub returns-in_default : goal.returns-in_default
returns-in_default c =
    turn_nothing _ _ _ _ _ _ _ _ (sym c.has.ensures ∙ c.if-not-has.false) c.candidate.ensures c.parts_within.ensures (ap as_joined c.in_default.is)

pub returns : goal.returns
returns c =
    turn_more _ _ _ _ _ _ _ _ (sym c.has.ensures ∙ c.if-not-has.false) c.candidate.ensures c.parts_within.ensures (ap as_joined c.in-Some.is)
    c.one_bit.ensures.set c.join.ensures c.join-2.ensures c.join-3.ensures
