-- `tables::edge_of` meets its contract.
-- Assumes nothing.
use mathlib.Core.Path.{◌∙◌}
use native.Mathlib.Omega.{arith}
use Rattle.tables.specs.Held.Laws.{edge_inner, edge_entry}
use Rattle.tables.proofs.automaton.edge_of.Goals as goal

pub returns-then-n-edges-clause-result_value : goal.returns-then-n-edges-clause-result_value
returns-then-n-edges-clause-result_value c = c.edge_at.ensures ∙ edge_inner c.args.z _ _ _ c.if-n-edges.true

pub returns-clause-result_value : goal.returns-clause-result_value
returns-clause-result_value c = edge_entry c.args.z _ _ _ _ c.if-n-edges.false (omega arith) c.entry_at-e.ensures
