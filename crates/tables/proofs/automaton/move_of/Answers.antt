-- `tables::move_of` meets its contract.
-- Assumes nothing.
use Rattle.tables.specs.Held.Laws.{move_there, move_past}
use Rattle.tables.proofs.automaton.move_of.Goals as goal

pub returns-then-i-z : goal.returns-then-i-z
returns-then-i-z c = move_there _ _ _ c.if-i-z.true c.move_at.ensures

pub returns : goal.returns
returns c = move_past _ _ _ c.if-i-z.false
