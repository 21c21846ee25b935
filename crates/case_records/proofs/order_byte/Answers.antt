-- `case_records::order_byte` meets its contract.
-- Assumes nothing.
use borrow.Author.Tests.{lt-ltb, le-ltb}
use Rattle.case_records.specs.Keys.{order_byte}
use Rattle.case_records.proofs.order_byte.Goals as goal

pub returns-then-e-h : goal.returns-then-e-h
unfolding order_byte
returns-then-e-h c = rw (order_byte, lt-ltb _ _ c.if-e-h.true)

pub returns-else-e-h : goal.returns-else-e-h
unfolding order_byte
returns-else-e-h c = rw (order_byte, le-ltb _ _ c.if-e-h.false)
