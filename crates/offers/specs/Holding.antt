-- Whether a result is held, by entries: one of them is the result's, and has it as a move.
-- Assumes nothing.
pub mod Laws
use Rattle.std.specs.Prelude.{ℕ, ◌+◌, Bool, ◌&&◌, get_or}
use Rattle.words.specs.Lists.{some_of}
use Rattle.automata.specs.Automaton.{Automaton, Move, no_entry}
use Rattle.automata.specs.Derivation.{Result}
use Rattle.automata.specs.Saturation.{is_entry}
use Rattle.move_index.specs.Keys.{same_move}

-- the result as a move of entry number k
abbrev pub as_move_of : Automaton → Result → ℕ → Move
as_move_of A x k = record { state = A.J + k; symbol = x.symbol; order = x.order; B = x.B; R = x.R }

-- a move of entry number k is the result x
unfoldable pub held_by : Automaton → Result → ℕ → Bool
held_by A x k = is_entry x.control x.S (get_or A.entries k no_entry) && some_of (same_move (as_move_of A x k)) A.moves
