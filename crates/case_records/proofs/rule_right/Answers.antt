-- `case_records::rule_right` meets its contract.
-- Assumes nothing.
use Rattle.std.proofs.Common.{rules}
use Rattle.files.specs.Case.{rule_bytes, rule_right}
use Rattle.operations.specs.Table.{operand_right}
use Rattle.case_records.proofs.rule_right.Goals as goal

pub returns-then-known : goal.returns-then-known
unfolding rule_bytes rule_right operand_right
returns-then-known c = search rules

pub returns-else-known : goal.returns-else-known
unfolding rule_bytes rule_right operand_right
returns-else-known c = search rules
