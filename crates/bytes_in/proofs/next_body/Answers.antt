-- `bytes_in::next_body` meets its contract.
-- Assumes nothing.
use mathlib.Core.Path.{sym, ◌∙◌}
use Rattle.bytes_in.specs.Contents.Laws.{next_body_right, next_body_wrong}
use Rattle.bytes_in.proofs.next_body.Goals as goal

pub returns-then-line_right : goal.returns-then-line_right
returns-then-line_right c =
    rw c.from.ensures
    (next_body_right _ _ _ _ _ _ (sym c.line_right.ensures ∙ c.if-line_right.true) c.offset_of.ensures.value c.count_of.ensures.value)

pub returns-else-line_right : goal.returns-else-line_right
returns-else-line_right c = next_body_wrong _ _ _ _ (sym c.line_right.ensures ∙ c.if-line_right.false)
