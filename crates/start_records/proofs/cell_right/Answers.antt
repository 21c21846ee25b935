-- `start_records::cell_right` meets its contract.
-- Assumes nothing.
use mathlib.Core.Path.{sym, ◌∙◌}
use native.Mathlib.Omega.{arith}
use Rattle.start_records.specs.Cells.Laws.{right_empty1, right_empty2, right_symbol, right_above}
use Rattle.start_records.proofs.cell_right.Goals as goal

pub returns-in-1 : goal.returns-in-1
returns-in-1 c = c.empty_right.ensures ∙ sym (right_empty1 _ _ _ _ c.in-1.is)

pub returns-in-2 : goal.returns-in-2
returns-in-2 c = c.symbol_right.ensures ∙ sym (right_symbol _ _ _ _ (λ e. omega arith) c.in-2.is)

pub returns-in-3 : goal.returns-in-3
returns-in-3 c = c.empty_right-in-3.ensures ∙ sym (right_empty2 _ _ _ _ (λ e. omega arith) (λ e. omega arith) c.in-3.is)

pub returns-in_default : goal.returns-in_default
returns-in_default c = c.above_right.ensures ∙ sym (right_above _ _ _ _ (λ e. omega arith) (λ e. omega arith) (λ e. omega arith))
