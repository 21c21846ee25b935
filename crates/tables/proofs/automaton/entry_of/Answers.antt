-- `tables::entry_of` meets its contract.
-- Assumes nothing.
use mathlib.Core.Path.{ap, sym, ◌∙◌}
use Rattle.automata.specs.Automaton.Laws.{entry_at_of}
use Rattle.tables.specs.Held.{found_entry}
use Rattle.tables.specs.Held.Laws.{none_of}
use Rattle.tables.proofs.automaton.entry_of.Goals as goal

pub returns-in-None : goal.returns-in-None
returns-in-None c = sym (none_of _ _ _ (sym c.find_entry.ensures ∙ ap found_entry c.in-None.is))

pub returns-in-Some : goal.returns-in-Some
returns-in-Some c = sym (entry_at_of _ _ _ (sym c.find_entry.ensures ∙ ap found_entry c.in-Some.is))
