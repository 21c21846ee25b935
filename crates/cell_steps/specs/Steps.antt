-- A step in lent cells: its new cells and their choices as words, and what the words stand for.
-- Assumes nothing.
pub mod Laws
pub mod Choices
use Rattle.std.specs.Prelude.{ℕ, ◌+◌, ◌≤◌, ◌≡◌, length, get_or, take}
use mathlib.Core.List.{List, [], ◌∷◌, map, zip_with}
use Rattle.stacks.specs.Stack.{Operation, rewrite, push1, push2, copy, pop1, pop2, collapse1, collapse2}
use Rattle.walks.specs.Cell as walks
use Rattle.walks.specs.Guide.{Guided, chooses}
use Rattle.cell_memory.specs.Memory.{value_of, with_cell, with_choice, with_choices}

-- the words after these are written for the cells from number n on, each one by `put`
unfoldable pub put_from : {X : Type 0} → (List ℕ → ℕ → X → List ℕ) → List ℕ → ℕ → List X → List ℕ
put_from put ws n [] = ws
put_from put ws n (x ∷ xs) = put_from put (put ws n x) (n + 1) xs

-- ---- cells

abbrev pub put_cell : List ℕ → ℕ → walks.Cell → List ℕ
put_cell ws n c = with_cell ws n (value_of c)

-- the words where these are the cells from number n on, with no choices
abbrev pub with_cells : List ℕ → ℕ → List walks.Cell → List ℕ
with_cells = put_from put_cell

-- cell i of these, counted from 0
unfoldable pub cell_number : List walks.Cell → ℕ → walks.Cell
cell_number cs i = get_or cs i walks.empty1

-- The first i of these cells are written from number n on, each one by `put`: the words ws have become us.
pub record CellsPut (put : List ℕ → ℕ → walks.Cell → List ℕ) (ws : List ℕ) (n : ℕ) (cs : List walks.Cell) (i : ℕ) (us : List ℕ) : Type 0 where
  pub within : i ≤ length cs
  pub is : us ≡ put_from put ws n (take i cs)

-- the symbol that an operation names, or 0
unfoldable pub symbol_of : Operation → ℕ
symbol_of (rewrite b) = b
symbol_of (push1 b) = b
symbol_of (push2 b) = b
symbol_of copy = 0
symbol_of pop1 = 0
symbol_of pop2 = 0
symbol_of collapse1 = 0
symbol_of collapse2 = 0

-- ---- choices

-- the choices of a cell as words: one number for one state, or a number for each state
pub data CellChoices : Type 0 where
  one : ℕ → ℕ → CellChoices
  all : List ℕ → CellChoices

unfoldable pub choice_of : CellChoices → ℕ → ℕ
choice_of (one q n) = chooses q n
choice_of (all ns) = λ q. get_or ns q 0

-- the words where cell n, which had no choices, has these
unfoldable pub with_chosen : List ℕ → ℕ → CellChoices → List ℕ
with_chosen ws n (one q k) = with_choice ws n q k
with_chosen ws n (all ns) = with_choices ws n ns

-- the words where the cells from number n on, which had no choices, have these
abbrev pub with_all_chosen : List ℕ → ℕ → List CellChoices → List ℕ
with_all_chosen = put_from with_chosen

-- The new top symbol chooses `number` for order-1 state r and the new root chooses `edge` for p'. The symbol that stays below chooses the
-- numbers ms, and the order-2 stack below a copy the numbers es. In the order of `cells_after`.
module _ (r number p' edge : ℕ) (es ms : List ℕ) where
  unfoldable pub step_chosen : Operation → List CellChoices
  step_chosen (rewrite b) = one r number ∷ one p' edge ∷ []
  step_chosen (push1 b) = all ms ∷ one r number ∷ one p' edge ∷ []
  step_chosen (push2 b) = all ms ∷ one r number ∷ one p' edge ∷ []
  step_chosen copy = all ms ∷ all es ∷ one r number ∷ one p' edge ∷ []
  step_chosen pop1 = one p' edge ∷ []
  step_chosen pop2 = []
  step_chosen collapse1 = one p' edge ∷ []
  step_chosen collapse2 = []

  unfoldable pub step_choices : Operation → List (ℕ → ℕ)
  step_choices op = map choice_of (step_chosen op)

-- ---- cells with choices

-- a cell with no choices
abbrev pub plain : walks.Cell → Guided
plain c = record { cell = c; choice = λ q. 0 }

abbrev pub guided_by : List walks.Cell → List (ℕ → ℕ) → List Guided
guided_by cs fs = zip_with (λ c f. record { cell = c; choice = f }) cs fs
