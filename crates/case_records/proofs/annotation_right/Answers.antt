-- `case_records::annotation_right` meets its contract.
-- Assumes nothing.
use mathlib.Core.Path.{sym}
use Rattle.std.proofs.Common.{rules}
use native.Mathlib.Omega.{arith}
use Rattle.files.specs.Case.{annotation_right}
use Rattle.files.specs.Case.Records.{head_bounds}
use Rattle.case_records.specs.Bounds.Laws.{annotation_more}
use Rattle.case_records.proofs.annotation_right.Goals as goal

pub inner1-requires : goal.inner1-requires
inner1-requires c = (head_bounds _ c.args.right.right).inner1_few

pub inner2-requires : goal.inner2-requires
inner2-requires c = ((head_bounds _ c.args.right.right).controls_few, (head_bounds _ c.args.right.right).inner2_few)

pub returns-in-0 : goal.returns-in-0
unfolding annotation_right
returns-in-0 c = search rules

pub returns-then-b-ne0 : goal.returns-then-b-ne0
unfolding annotation_right
returns-then-b-ne0 c = search rules

pub returns-else-b-ne0 : goal.returns-else-b-ne0
unfolding annotation_right
returns-else-b-ne0 c = search rules

pub returns-then-b-ne0-2 : goal.returns-then-b-ne0-2
unfolding annotation_right
returns-then-b-ne0-2 c = search rules

pub returns-else-b-ne0-2 : goal.returns-else-b-ne0-2
unfolding annotation_right
returns-else-b-ne0-2 c = search rules

pub returns-in_default : goal.returns-in_default
returns-in_default c = sym (annotation_more _ _ _ (omega arith))
