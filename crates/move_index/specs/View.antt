-- The automaton that indexed tables hold.
-- Assumes nothing.
use Rattle.automata.specs.Automaton.{Automaton}
use Rattle.tables.specs.Held.{automaton_of, table_of}
use Rattle.move_index.specs.declared.indexed.WordsIndexed.{WordsIndexed}
use Rattle.move_index.specs.declared.indexed.Indexed.{Indexed}

-- the automaton without its inner edges, for what does not depend on them
abbrev pub table_in : WordsIndexed → Automaton
table_in by = table_of by.table by.entries.now by.moves.now

-- the automaton
abbrev pub automaton_in : Indexed → Automaton
automaton_in by =
    automaton_of by.moves.held.table by.inner.now by.moves.held.entries.now by.moves.held.moves.now
