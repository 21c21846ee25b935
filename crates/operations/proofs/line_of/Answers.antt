-- `operations::line_of` meets its contract.
-- Assumes nothing.
use native.Mathlib.Omega.{arith}
use Rattle.operations.specs.Table.Laws.{lines, line_at}
use Rattle.operations.proofs.line_of.Goals as goal

pub returns : goal.returns
unfolding lines
returns c = line_at _ c.args.code (omega arith) (omega arith)
