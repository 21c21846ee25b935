-- Lent cells as words: what cell and which choices stand there, and the words after a cell or a choice is written.
-- Assumes nothing.
pub mod Laws
use Rattle.std.specs.Prelude.{ℕ, zero, suc, ◌+◌, ◌*◌, true, false, List, [], ◌∷◌, ◌++◌, get_or, take, drop, set, eqb}
use Rattle.std.proofs.lemmas.List.Edits.{sets}
use Rattle.words.specs.Lists.{zeros}
use Rattle.walks.specs.Cell as walks
use Rattle.walks.specs.Guide.{Guided}
use Rattle.cell_memory.specs.declared.Cell.{Cell}
use Rattle.cell_memory.specs.declared.Cell.TheVariants.{Empty1, Symbol, Empty2, Above}

-- the cell of a walk that a cell by value stands for
unfoldable pub cell_of : Cell → walks.Cell
cell_of Empty1 = walks.empty1
cell_of (Symbol a u s) = walks.symbol a u s
cell_of Empty2 = walks.empty2
cell_of (Above w t) = walks.above w t

-- the cell by value that stands for a cell of a walk
unfoldable pub value_of : walks.Cell → Cell
value_of walks.empty1 = Empty1
value_of (walks.symbol a u s) = Symbol a u s
value_of walks.empty2 = Empty2
value_of (walks.above w t) = Above w t

-- The kinds are those of a start file; any other number, as in words that are all zero, is an empty order-1 stack.
unfoldable pub of_kind : ℕ → ℕ → ℕ → ℕ → Cell
of_kind kind a u s = elim (eqb kind 2) [
  | true ↦ Symbol a u s
  | false ↦ elim (eqb kind 3) [ true ↦ Empty2 | false ↦ elim (eqb kind 4) [ true ↦ Above u s | false ↦ Empty1 ] ]
]

-- the cell that stands at number i
unfoldable pub cell_in : List ℕ → ℕ → Cell
cell_in ws i = of_kind (get_or ws (i * 68) 0) (get_or ws (i * 68 + 1) 0) (get_or ws (i * 68 + 2) 0) (get_or ws (i * 68 + 3) 0)

-- the choices at number i, a word for each of 64 states
unfoldable pub choices_in : List ℕ → ℕ → List ℕ
choices_in ws i = take 64 (drop (i * 68 + 4) ws)

-- the choice for state q, which is 0 from state 64 on
unfoldable pub choice_in : List ℕ → ℕ → ℕ → ℕ
choice_in ws i q = get_or (choices_in ws i) q 0

-- the cell with its choices that stands at number i
unfoldable pub guided_cell : List ℕ → ℕ → Guided
guided_cell ws i = record { cell = cell_of (cell_in ws i); choice = choice_in ws i }

-- the first n cells with their choices
unfoldable pub guided_in : ℕ → List ℕ → List Guided
guided_in zero ws = []
guided_in (suc n) ws = guided_in n ws ++ (guided_cell ws n ∷ [])

-- the four fields of a cell
unfoldable pub fields : Cell → List ℕ
fields Empty1 = 1 ∷ 0 ∷ 0 ∷ 0 ∷ []
fields (Symbol a u s) = 2 ∷ a ∷ u ∷ s ∷ []
fields Empty2 = 3 ∷ 0 ∷ 0 ∷ 0 ∷ []
fields (Above w t) = 4 ∷ 0 ∷ w ∷ t ∷ []

-- the words where cell i is c and has no choice
unfoldable pub with_cell : List ℕ → ℕ → Cell → List ℕ
with_cell ws i c = sets ws (i * 68) (fields c ++ zeros 64)

-- the words where cell i chooses n for state q
unfoldable pub with_choice : List ℕ → ℕ → ℕ → ℕ → List ℕ
with_choice ws i q n = set ws (i * 68 + 4 + q) n

-- the words where the choices of cell i are these
unfoldable pub with_choices : List ℕ → ℕ → List ℕ → List ℕ
with_choices ws i ns = sets ws (i * 68 + 4) ns
