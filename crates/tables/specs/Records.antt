-- The records of this crate: as records of the automaton, and as rows of words.
-- Assumes nothing.
pub mod Laws
use Rattle.std.specs.Prelude.{ℕ, List}
use Rattle.automata.specs.Automaton.{Move, Entry, Edge}
use Rattle.automata.specs.Derivation.{Result}
use Rattle.services.specs.Memory.{Counted, entry_words}
use Rattle.tables.specs.declared.Move.{Move as MoveWords}
use Rattle.tables.specs.declared.Entry.{Entry as EntryWords}
use Rattle.tables.specs.declared.Edge.{Edge as EdgeWords}
use Rattle.tables.specs.declared.Result.{Result as ResultWords}

-- ---- as records of the automaton

abbrev pub as_move : MoveWords → Move
as_move m = record { state = m.state; symbol = m.symbol; order = m.order; B = m.b; R = m.r }

abbrev pub as_entry : EntryWords → Entry
as_entry e = record { control = e.control; S = e.s }

abbrev pub as_edge : EdgeWords → Edge
as_edge e = record { state = e.state; first = e.first; S = e.s }

abbrev pub as_result : ResultWords → Result
as_result x = record { control = x.control; S = x.s; symbol = x.symbol; order = x.order; B = x.b; R = x.r }

-- ---- as rows of words

abbrev pub move_from : (ℕ → ℕ) → Move
move_from f = record { state = f 0; symbol = f 1; order = f 2; B = f 3; R = f 4 }

abbrev pub entry_from : (ℕ → ℕ) → Entry
entry_from f = record { control = f 0; S = f 1 }

-- the row of an entry that has no moves yet
unfoldable pub new_words : Entry → List ℕ
new_words e = entry_words (record { entry = e; moves = 0 })

-- the same row with the number of the entry's moves
abbrev pub counted_from : (ℕ → ℕ) → Counted
counted_from f = record { entry = entry_from f; moves = f 2 }

abbrev pub edge_from : (ℕ → ℕ) → Edge
edge_from f = record { state = f 0; first = f 1; S = f 2 }

abbrev pub result_from : (ℕ → ℕ) → Result
result_from f = record { control = f 0; S = f 1; symbol = f 2; order = f 3; B = f 4; R = f 5 }
