-- Sorted insertion into the first rows of a table, for rows of any width: a row is its words, and rows stand by rising words, each once.
-- Assumes nothing.
pub mod Words
pub mod Laws
use Rattle.std.specs.Prelude.{ℕ, suc, ◌+◌, ◌*◌, ◌≤◌, Bool, true, false, not, ◌≡◌, List, [], ◌∷◌, ◌++◌, length, take, drop, leb}
use Rattle.words.specs.Lists.{each}
use Rattle.words.specs.Order.{less, insert}
use Rattle.tables.specs.Rows.{first_of, Layout, rows_in}

-- the words of row i, where a row has w words
abbrev pub row_words : ℕ → List ℕ → ℕ → List ℕ
row_words w t i = take w (drop (i * w) t)

-- the first n rows
unfoldable pub word_rows : ℕ → ℕ → List ℕ → List (List ℕ)
word_rows w n t = first_of n (row_words w t)

-- the first n rows with x in its place, unless it is there
abbrev pub with_row : ℕ → List ℕ → List ℕ → List (List ℕ)
with_row n x t = insert (λ k. k) x (word_rows (length x) n t)

-- The table with these rows in the place of its first n, and what stood behind them. Without room for so many rows it is as it was.
unfoldable pub inserted_in : ℕ → ℕ → List ℕ → List ℕ → List ℕ
inserted_in room n x t = elim (leb (length (with_row n x t)) room) [
  | true ↦ each (with_row n x t) (λ k. k) ++ drop (length (with_row n x t) * length x) t
  | false ↦ t
]

-- ---- steps of an insertion

-- the number of leading rows that come before x
unfoldable pub leading : List ℕ → List (List ℕ) → ℕ
leading x [] = 0
leading x (y ∷ ys) = elim (less y x) [ true ↦ suc (leading x ys) | false ↦ 0 ]

-- the row after those is there, and x does not come before it: it is x
unfoldable pub reached : List ℕ → List (List ℕ) → Bool
reached x [] = false
reached x (y ∷ ys) = elim (less y x) [ true ↦ reached x ys | false ↦ not (less x y) ]

-- ---- insertion of a record whose words are its key

-- r rows of t' are n rows of t with a inserted, and the words behind them stand where they stood.
pub record Inserted {A : Type 0} (L : Layout A) (t t' : List ℕ) (n r : ℕ) (a : A) : Type 0 where
  pub rows : rows_in L r t' ≡ insert L.words a (rows_in L n t)
  pub behind : drop (r * L.width) t' ≡ drop (r * L.width) t
  pub few : r ≤ n + 1
  pub kept : n ≤ r
