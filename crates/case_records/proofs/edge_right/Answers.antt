-- `case_records::edge_right` meets its contract.
-- Assumes nothing.
use Rattle.std.proofs.Common.{rules}
use native.Mathlib.Omega.{arith}
use Rattle.files.specs.Case.Records.{head_bounds}
use Rattle.case_records.specs.Bounds.Laws.{edge_parts}
use Rattle.case_records.proofs.edge_right.Goals as goal

pub overflow_add-h : goal.overflow_add-h
overflow_add-h c = omega (arith, head_bounds _ c.args.right.right)

pub inner2-requires : goal.inner2-requires
inner2-requires c = ((head_bounds _ c.args.right.right).controls_few, (head_bounds _ c.args.right.right).inner2_few)

pub returns-then-e-h : goal.returns-then-e-h
returns-then-e-h c = rw edge_parts (search rules)

pub returns-else-e-h : goal.returns-else-e-h
returns-else-e-h c = rw edge_parts (search rules)
