-- `cell_memory::cell_at` meets its contract.
-- Assumes nothing.
use mathlib.Core.Path.{sym, ◌∙◌}
use native.Mathlib.Omega.{arith}
use Rattle.cell_memory.specs.Memory.Laws.{cell_in_symbol, cell_in_empty2, cell_in_above, cell_in_empty1}
use Rattle.cell_memory.proofs.cell_at.Goals as goal

pub returns-in-2 : goal.returns-in-2
returns-in-2 c = sym (cell_in_symbol _ _ (sym c.from.ensures ∙ c.in-2.is))

pub returns-in-3 : goal.returns-in-3
returns-in-3 c = sym (cell_in_empty2 _ _ (sym c.from.ensures ∙ c.in-3.is))

pub returns-in-4 : goal.returns-in-4
returns-in-4 c = sym (cell_in_above _ _ (sym c.from.ensures ∙ c.in-4.is))

pub returns-in_default : goal.returns-in_default
returns-in_default c = sym (cell_in_empty1 _ _ (λ z. omega arith) (λ z. omega arith) (λ z. omega arith))
