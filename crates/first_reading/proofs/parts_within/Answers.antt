-- `first_reading::parts_within` meets its contract.
-- Assumes nothing.
use mathlib.Core.Path.{ap, sym, ◌∙◌}
use Rattle.tables.specs.Records.{as_result}
use Rattle.joins.specs.Joining.{as_joined}
use Rattle.first_reading.specs.Search.{within}
use Rattle.first_reading.specs.Words.Laws.{within_no_B, within_no_R, within_yes}
use native.Mathlib.Omega.{arith}
use Rattle.first_reading.proofs.parts_within.Goals as goal
use Rattle.first_reading.proofs.parts_within.Goals.{then-part_of, else-part_of}

pub returns-in_err-k : goal.returns-in_err-k
unfolding within
returns-in_err-k c = ap as_joined c.from_residual.ensures ∙ sym (ap (within (as_result c.args.x)) (ap as_joined c.in_err-k.was))

pub returns-then-not-part_of : goal.returns-then-not-part_of
returns-then-not-part_of c =
    let some-joins = ap as_joined c.in_ok-k.was in
    elim c.if-part_of.branch [
      | then-part_of w ↦
          sym (ap (within _) some-joins ∙ within_no_R _ _ (sym c.part_of.ensures ∙ w.if-part_of.true) (sym w.part_of-then-part_of.ensures ∙ sym w.value-is ∙ c.if-not-part_of.true))
      | else-part_of w ↦ sym (ap (within _) some-joins ∙ within_no_B _ _ (sym c.part_of.ensures ∙ w.if-part_of.false))
    ]

pub returns : goal.returns
returns c =
    let some-joins = ap as_joined c.in_ok-k.was in
    elim c.if-part_of.branch [
      | then-part_of w ↦
          sym (ap (within _) some-joins ∙ within_yes _ _ (sym c.part_of.ensures ∙ w.if-part_of.true) (sym w.part_of-then-part_of.ensures ∙ sym w.value-is ∙ c.if-not-part_of.false))
      | else-part_of w ↦ grind arith
    ]
