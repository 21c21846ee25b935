-- Lent memory: how many records it holds, and what stands in it.
-- Assumes nothing.
pub mod Laws
pub mod Counts
use Rattle.std.specs.Prelude.{ℕ, suc, ◌-◌, ◌/◌, max, List, [], ◌∷◌, ◌++◌, length, eqb}
use Rattle.words.specs.Lists.{each, only, zeros}
use Rattle.automata.specs.Automaton.{Automaton, Move, Entry}
use Rattle.automata.specs.Saturation.{Size}

-- a slice of n words that begins with these and is zero from there on
unfoldable pub padded : ℕ → List ℕ → List ℕ
padded n ws = ws ++ zeros (n - length ws)

-- ---- document 02, 7: "How many moves an entry has"

-- "the count by walking": the number of the moves whose order-1 state is r
unfoldable pub move_count : List Move → ℕ → ℕ
move_count ms r = length (only (λ m. eqb m.state r) ms)

-- a record of the entry table: an entry, and the number of its moves
pub record Counted : Type 0 where
  pub entry : Entry
  pub moves : ℕ

-- the entries, the first being order-1 state r, each with the number of its moves among these
unfoldable pub with_counts : List Move → ℕ → List Entry → List Counted
with_counts ms r [] = []
with_counts ms r (e ∷ es) = record { entry = e; moves = move_count ms r } ∷ with_counts ms (suc r) es

unfoldable pub counted : Automaton → List Counted
counted A = with_counts A.moves A.J A.entries

-- "the largest such count, 0 without entries"
unfoldable pub largest : List Counted → ℕ
largest [] = 0
largest (c ∷ cs) = max c.moves (largest cs)

-- ---- the tables

-- "A move table (five words of 64 bits each, the fields in the order of body 4) and an entry table (p, S, a word each)."
unfoldable pub move_words : Move → List ℕ
move_words m = m.state ∷ m.symbol ∷ m.order ∷ m.B ∷ m.R ∷ []

-- "Keep the count as a third word of the entry."
unfoldable pub entry_words : Counted → List ℕ
entry_words c = c.entry.control ∷ c.entry.S ∷ c.moves ∷ []

-- the number of these words
abbrev pub entry_width : ℕ
entry_width = 3

unfoldable pub move_table : Automaton → List ℕ
move_table A = each A.moves move_words

unfoldable pub entry_table : Automaton → List ℕ
entry_table A = each (counted A) entry_words

-- "Only whole records count": the records that fit slices of so many words.
unfoldable pub lent : ℕ → ℕ → Size
lent moveLength entryLength = record { moves = moveLength / 5; entries = entryLength / entry_width }
