-- `case_file::form_of` meets its contract.
-- Assumes nothing.
use native.Mathlib.Omega.{arith}
use Rattle.case_file.specs.Forms.Laws.{form_four, form_five, form_none}
use Rattle.case_file.proofs.form_of.Goals as goal

pub returns-in-4 : goal.returns-in-4
returns-in-4 c = form_four _ c.in-4.is

pub returns-in-5 : goal.returns-in-5
returns-in-5 c = form_five _ c.in-5.is

pub returns-in_default : goal.returns-in_default
returns-in_default c = form_none _ (λ e. omega arith) (λ e. omega arith)
