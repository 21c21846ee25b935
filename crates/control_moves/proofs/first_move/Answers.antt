-- `control_moves::first_move` meets its contract.
-- Assumes nothing.
use Rattle.control_moves.proofs.First.Laws.{first_newer, first_none}
use Rattle.control_moves.proofs.first_move.Goals as goal

pub returns-then-has_symbol : goal.returns-then-has_symbol
returns-then-has_symbol c = first_newer _ _ _ _ c.has_symbol.ensures c.if-has_symbol.true

pub returns : goal.returns
returns c = first_none _ _ _ _ c.has_symbol.ensures c.if-has_symbol.false
