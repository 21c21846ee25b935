-- `bounded_text::put_bytes` meets its contract.
-- Assumes nothing.
use mathlib.Core.Path.{sym}
use Rattle.bounded_text.specs.Page.Laws.{printed_none, printed_more, printed_past, prints_to}
use Rattle.bounded_text.proofs.put_bytes.Goals as goal

pub loop-byte-init : goal.loop-byte-init
loop-byte-init c = printed_none _ _

pub returns-in_err-end : goal.returns-in_err-end
returns-in_err-end c = prints_to (sym c.from_residual.ensures) (printed_past c.loop-byte.invariant c.loop-byte-test.true c.in_err-end.ensures)

pub loop-byte-preserved : goal.loop-byte-preserved
loop-byte-preserved c = printed_more c.loop-byte.invariant c.loop-byte-test.true c.in_ok-end.ensures
