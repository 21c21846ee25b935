-- `start_records::refers_to` meets its contract.
-- Assumes nothing.
use mathlib.Core.Path.{sym, ◌∙◌}
use borrow.Author.Tests.{le-ltb}
use Rattle.start_records.specs.Cells.Laws.{refers_not, refers_kind}
use Rattle.start_records.proofs.refers_to.Goals as goal

pub returns-then-x-cells : goal.returns-then-x-cells
returns-then-x-cells c = refers_kind _ _ _ _ c.if-x-cells.true c.fields_at.ensures.result_value c.order_of.ensures

pub returns-else-x-cells : goal.returns-else-x-cells
returns-else-x-cells c = le-ltb _ _ c.if-x-cells.false ∙ sym (refers_not _ _ _ _ c.if-x-cells.false)
