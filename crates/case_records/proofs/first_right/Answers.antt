-- `case_records::first_right` meets its contract.
-- Assumes nothing.
use Rattle.std.proofs.Common.{rules}
use Rattle.case_records.specs.Bounds.{first_right}
use Rattle.case_records.proofs.first_right.Goals as goal

pub returns-in-254 : goal.returns-in-254
unfolding first_right
returns-in-254 c = search rules

pub returns-in_default : goal.returns-in_default
unfolding first_right
returns-in_default c = search rules

pub returns-in_default-2 : goal.returns-in_default-2
unfolding first_right
returns-in_default-2 c = search rules

pub returns-else-e-h : goal.returns-else-e-h
unfolding first_right
returns-else-e-h c = search rules
