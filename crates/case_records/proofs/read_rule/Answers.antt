-- `case_records::read_rule` meets its contract.
-- Assumes nothing.
use Rattle.files.specs.Case.{rule_of, rule_bytes}
use Rattle.case_records.proofs.read_rule.Goals as goal

pub returns : goal.returns
unfolding rule_of rule_bytes
returns c = cc
