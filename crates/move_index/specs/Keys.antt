-- The keys of moves, and the chains of the first moves of a table by each: by state and symbol, and by all their words.
-- Assumes nothing.
pub mod Laws
use Rattle.std.specs.Prelude.{ℕ, ◌+◌, ◌*◌, ◌%◌, Bool, ◌&&◌, List, eqb}
use Rattle.automata.specs.Automaton.{Move}
use Rattle.chains.specs.Chains.{Chained}
use Rattle.tables.specs.Rows.{row_at}
use Rattle.tables.specs.Layouts.{move_row}

-- the key of the moves of state r on symbol a: for states below 64 and symbols below 32 no two have the same
unfoldable pub state_key : ℕ → ℕ → ℕ
state_key r a = (r % 64) * 32 + a % 32

-- the key of a move by all its words; 2,039 is the greatest prime below 2,048
unfoldable pub words_key : Move → ℕ
words_key m = ((m.B % 65521) * 1021 + (m.R % 65521) * 577 + ((m.order % 4) * 683 + state_key m.state m.symbol)) % 2039

-- m and n are the same move
unfoldable pub same_move : Move → Move → Bool
same_move m n = eqb m.state n.state && eqb m.symbol n.symbol && eqb m.order n.order && eqb m.B n.B && eqb m.R n.R

-- the key of move i by state and symbol
abbrev pub state_key_at : List ℕ → ℕ → ℕ
state_key_at moves i = state_key (row_at move_row moves i).state (row_at move_row moves i).symbol

-- the first n moves by state and symbol
abbrev pub ByState : ℕ → List ℕ → List ℕ → Type 0
ByState n moves t = Chained (state_key_at moves) n t

-- the first n moves by all their words
abbrev pub ByWords : ℕ → List ℕ → List ℕ → Type 0
ByWords n moves t = Chained (λ i. words_key (row_at move_row moves i)) n t
