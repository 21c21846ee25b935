-- `operations::operand_right` meets its contract.
-- Assumes nothing.
use Rattle.operations.specs.Table.Laws.{operand_symbol, operand_zero}
use Rattle.operations.proofs.operand_right.Goals as goal

pub returns-in-Symbol : goal.returns-in-Symbol
returns-in-Symbol c = operand_symbol _ _ _ c.requires.2 c.line_of-operand.ensures c.in-Symbol.is

pub returns-in-Zero : goal.returns-in-Zero
returns-in-Zero c = operand_zero _ _ _ c.requires.2 c.line_of-operand.ensures c.in-Zero.is
