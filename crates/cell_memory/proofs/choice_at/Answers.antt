-- `cell_memory::choice_at` meets its contract.
-- Assumes nothing.
use mathlib.Core.Path.{sym}
use Rattle.cell_memory.specs.Memory.Laws.{choice_in_below, choice_in_past}
use Rattle.cell_memory.proofs.choice_at.Goals as goal

pub returns-then-q : goal.returns-then-q
returns-then-q c = sym (choice_in_below _ _ _ c.if-q.true)

pub returns-else-q : goal.returns-else-q
returns-else-q c = sym (choice_in_past _ _ _ c.if-q.false)
