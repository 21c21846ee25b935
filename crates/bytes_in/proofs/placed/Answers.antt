-- `bytes_in::placed` meets its contract.
-- Assumes nothing.
use mathlib.Core.Path.{sym, ◌∙◌}
use borrow.Author.Tests.{lt-leb}
use Rattle.bytes_in.specs.Contents.Laws.{table_short, table_bodies}
use Rattle.bytes_in.proofs.placed.Goals as goal

pub returns-then-contents-file : goal.returns-then-contents-file
returns-then-contents-file c = c.bodies_placed.ensures ∙ sym (table_bodies _ _)

pub returns-else-contents-file : goal.returns-else-contents-file
returns-else-contents-file c = lt-leb _ _ c.if-contents-file.false ∙ sym (table_short _ _ c.if-contents-file.false)
