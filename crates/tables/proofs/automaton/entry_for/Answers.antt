-- `tables::entry_for` meets its contract.
-- Assumes nothing.
use mathlib.Core.Path.{ap, ◌∙◌}
use Rattle.tables.specs.Records.{as_entry}
use Rattle.tables.specs.Held.Laws.{for_found}
use Rattle.tables.proofs.automaton.entry_for.Goals as goal

pub returns : goal.returns
returns c = ap as_entry c.unwrap_or.ensures ∙ for_found _ _ c.find_entry.result c.find_entry.ensures
