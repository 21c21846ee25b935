-- `operations::codes_right` meets its contract. The invariant: all codes are right exactly if those that are left are.
-- Assumes nothing.
use Rattle.operations.specs.Laws.Codes.{right_zero, right_again, right_more, right_all}
use Rattle.operations.proofs.codes_right.Goals.{then-c-eq0-via-then-c-eq0, then-c-eq0-via-else-c-eq0+then-contains}
use Rattle.operations.proofs.codes_right.Goals as goal

pub returns-then-c-eq0 : goal.returns-then-c-eq0
returns-then-c-eq0 c =
    elim c.then-c-eq0.branch [
      | then-c-eq0-via-then-c-eq0 w ↦ right_zero _ _ c.loop-c.invariant c.in-Some.ensures.cases.0 w.if-c-eq0.true
      | then-c-eq0-via-else-c-eq0+then-contains w ↦ right_again _ _ c.loop-c.invariant c.in-Some.ensures.cases.0 w.contains.ensures.value w.if-contains.true
    ]

pub loop-c-preserved : goal.loop-c-preserved
loop-c-preserved c = right_more _ _ c.loop-c.invariant c.in-Some.ensures.cases.0 c.contains.ensures.value c.if-c-eq0.false c.if-contains.false

pub returns : goal.returns
returns c = right_all _ _ c.loop-c.invariant c.in_default.ensures.cases
