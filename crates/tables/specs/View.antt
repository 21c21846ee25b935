-- The automaton that tables hold, by the tables as one value.
-- Assumes nothing.
use Rattle.std.specs.Prelude.{[]}
use Rattle.automata.specs.Automaton.{Automaton}
use Rattle.tables.specs.declared.view.Tables.{Tables}
use Rattle.tables.specs.Held.{automaton_of, table_of}

-- the automaton
abbrev pub automaton_in : Tables → Automaton
automaton_in t = automaton_of t.table t.inner.now t.entries.now t.moves.now

-- the same without its inner edges and moves, for what does not depend on them
abbrev pub entries_in : Tables → Automaton
entries_in t = table_of t.table t.entries.now []
