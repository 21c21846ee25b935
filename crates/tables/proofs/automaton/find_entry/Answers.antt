-- `tables::find_entry` meets its contract.
-- Assumes nothing.
use mathlib.Core.Path.{sym}
use native.Mathlib.Omega.{arith}
use Rattle.tables.specs.Held.Laws.{entry_at_inner, entry_at_past, entry_at_there}
use Rattle.tables.proofs.automaton.find_entry.Goals as goal

pub returns-then-r-z : goal.returns-then-r-z
returns-then-r-z c = sym (entry_at_inner c.args.z _ _ _ c.if-r-z.true)

pub returns-then-z-k : goal.returns-then-z-k
returns-then-z-k c = sym (entry_at_past c.args.z _ _ _ c.if-r-z.false c.if-z-k.true)

pub returns : goal.returns
returns c = sym (entry_at_there c.args.z _ _ _ _ c.if-r-z.false (omega arith) c.entry_at.ensures)
