-- `bounded_text::put_byte` meets its contract.
-- Assumes nothing.
use Rattle.bounded_text.specs.Page.Laws.{prints_byte, prints_past}
use Rattle.bounded_text.proofs.put_byte.Goals as goal

pub returns-then-at-text : goal.returns-then-at-text
returns-then-at-text c = prints_byte _ _ _ c.if-at-text.true

pub returns : goal.returns
returns c = prints_past _ _ _ c.if-at-text.false
