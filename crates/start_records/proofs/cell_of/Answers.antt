-- `start_records::cell_of` meets its contract.
-- Assumes nothing.
use mathlib.Core.Path.{sym}
use Rattle.cell_memory.specs.Memory.{cell_of}
use Rattle.start_records.specs.Cells.Laws.{of_empty1, of_symbol, of_empty2, of_above}
use native.Mathlib.Omega.{arith}
use Rattle.start_records.proofs.cell_of.Goals as goal

pub returns-in-1 : goal.returns-in-1
unfolding cell_of
returns-in-1 c = sym (of_empty1 _ c.in-1.is)

pub returns-in-2 : goal.returns-in-2
unfolding cell_of
returns-in-2 c = sym (of_symbol _ c.in-2.is)

pub returns-in-3 : goal.returns-in-3
unfolding cell_of
returns-in-3 c = sym (of_empty2 _ c.in-3.is)

pub returns-in_default : goal.returns-in_default
unfolding cell_of
returns-in_default c = sym (of_above _ (λ e. omega arith) (λ e. omega arith) (λ e. omega arith))
