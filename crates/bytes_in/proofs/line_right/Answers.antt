-- `bytes_in::line_right` meets its contract.
-- Assumes nothing.
use Rattle.std.proofs.Common.{rules}
use Rattle.files.specs.Bytes.{line_right, kind_of, count_of}
use Rattle.bytes_in.proofs.line_right.Goals as goal

pub returns-then-many : goal.returns-then-many
unfolding line_right kind_of count_of
returns-then-many c = search rules

pub returns-else-many : goal.returns-else-many
unfolding line_right kind_of count_of
returns-else-many c = search rules
