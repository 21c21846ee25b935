-- `case_records::operation_of` meets its contract.
-- Assumes nothing.
use mathlib.Core.Path.{sym}
use native.Mathlib.Omega.{arith}
use Rattle.files.specs.Case.{operation_of}
use Rattle.case_records.specs.Values.Laws.{operation_first, operation_last}
use Rattle.case_records.proofs.operation_of.Goals as goal

pub returns-in-2 : goal.returns-in-2
unfolding operation_of
returns-in-2 c = rw c.in-2.is

pub returns-in-3 : goal.returns-in-3
unfolding operation_of
returns-in-3 c = rw c.in-3.is

pub returns-in-4 : goal.returns-in-4
unfolding operation_of
returns-in-4 c = rw c.in-4.is

pub returns-in-5 : goal.returns-in-5
unfolding operation_of
returns-in-5 c = rw c.in-5.is

pub returns-in-6 : goal.returns-in-6
unfolding operation_of
returns-in-6 c = rw c.in-6.is

pub returns-in-7 : goal.returns-in-7
unfolding operation_of
returns-in-7 c = rw c.in-7.is

pub returns-in-0 : goal.returns-in-0
returns-in-0 c = sym (operation_first _ _ (omega arith))

pub returns-in_default : goal.returns-in_default
returns-in_default c = sym (operation_last _ _ (omega arith))
