-- `case_records::move_right` meets its contract.
-- Assumes nothing.
use Rattle.std.proofs.Common.{rules}
use Rattle.files.specs.Case.Records.{head_bounds}
use Rattle.files.specs.Case.{move_right}
use Rattle.case_records.proofs.move_right.Goals as goal

pub inner1-requires : goal.inner1-requires
inner1-requires c = (head_bounds _ c.args.right.right).inner1_few

pub returns-then-annotation_right : goal.returns-then-annotation_right
unfolding move_right
returns-then-annotation_right c = search rules

pub returns-else-annotation_right : goal.returns-else-annotation_right
unfolding move_right
returns-else-annotation_right c = search rules
