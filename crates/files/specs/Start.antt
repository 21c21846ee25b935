-- Start files.
-- Assumes nothing.
pub mod Laws
use Rattle.std.specs.Prelude.{ℕ, suc, Bool, true, false, not, ◌&&◌, List, [], ◌∷◌, map, length, get_or, eqb, ltb, leb}
use Rattle.words.specs.Lists.{every}
use Rattle.stacks.specs.System.{Configuration}
use Rattle.walks.specs.Cell.{Cell, empty1, symbol, empty2, above, stacks, stack_at, order2}
use Rattle.files.specs.Bytes.{field, Body, placed, records_of, Test, first_hit}
use Rattle.files.specs.Case.{head}

unfoldable pub start_bodies : List Body
start_bodies = record { kind = 1; least = 1; most = 64; size = 3 } ∷ record { kind = 2; least = 1; most = 256; size = 6 } ∷ []

-- "A start file starts with a byte 2 and contents of two lines."
unfoldable pub start_placed : List ℕ → Bool
start_placed file = eqb (get_or file 0 0) 2 && placed start_bodies file

-- a start: a control and a root cell
pub record Start : Type 0 where
  pub control : ℕ
  pub root : ℕ

unfoldable pub start_of : List ℕ → Start
start_of x = record { control = get_or x 0 0; root = field 1 2 x }

-- a cell's six bytes: kind, symbol, first, second
pub record CellBytes : Type 0 where
  pub kind : ℕ
  pub symbol : ℕ
  pub first : ℕ
  pub second : ℕ

unfoldable pub cell_bytes : List ℕ → CellBytes
cell_bytes x = record { kind = get_or x 0 0; symbol = get_or x 1 0; first = field 2 2 x; second = field 4 2 x }

unfoldable pub starts_of : List ℕ → List Start
starts_of file = map start_of (records_of file 0 3)

unfoldable pub cell_records : List ℕ → List CellBytes
cell_records file = map cell_bytes (records_of file 1 6)

-- the order of a cell of this kind
unfoldable pub order_of : ℕ → ℕ
order_of kind = elim (leb kind 2) [ true ↦ 1 | false ↦ 2 ]

-- cell x, of those given, has a number below n and this order
unfoldable pub refers_to : List CellBytes → ℕ → ℕ → ℕ → Bool
refers_to cells n order x =
    ltb x n && eqb (order_of (get_or cells x (record { kind = 0; symbol = 0; first = 0; second = 0 })).kind) order

-- "References are to lower cell numbers; unused fields are 0": cell number n of those given, where there are A symbols.
unfoldable pub cell_right : ℕ → List CellBytes → ℕ → CellBytes → Bool
cell_right A cells n x = elim (eqb x.kind 1) [
  | true ↦ eqb x.symbol 0 && eqb x.first 0 && eqb x.second 0
  | false ↦ elim (eqb x.kind 2) [
    | true ↦ ltb x.symbol A && ltb x.first n && refers_to cells n 1 x.second
    | false ↦ elim (eqb x.kind 3) [
      | true ↦ eqb x.symbol 0 && eqb x.first 0 && eqb x.second 0
      | false ↦ eqb x.kind 4 && eqb x.symbol 0 && refers_to cells n 1 x.first && refers_to cells n 2 x.second
    ]
  ]
]

-- cells number n and following
unfoldable pub cells_right : ℕ → List CellBytes → ℕ → List CellBytes → Bool
cells_right A cells n [] = true
cells_right A cells n (x ∷ xs) = elim (cell_right A cells n x) [ true ↦ cells_right A cells (suc n) xs | false ↦ false ]

-- "A root has order 2", and the control exists.
unfoldable pub start_right : ℕ → List CellBytes → Start → Bool
start_right P cells x = ltb x.control P && refers_to cells (length cells) 2 x.root

-- a case file and a start file
pub record Files : Type 0 where
  pub case : List ℕ
  pub start : List ℕ

unfoldable pub start_file_right : Files → Bool
start_file_right f =
    every (start_right (head f.case).P (cell_records f.start)) (starts_of f.start)
    && cells_right (head f.case).A (cell_records f.start) 0 (cell_records f.start)

-- refusals 5 and 6, of a start file for a sound case
unfoldable pub start_tests : List (Test Files)
start_tests =
    record { fails = λ f. not (start_placed f.start); refusal = 5 }
    ∷ record { fails = λ f. not (start_file_right f); refusal = 6 }
    ∷ []

-- 0 for a start file that is sound for its case, else its refusal
unfoldable pub start_refusal : Files → ℕ
start_refusal f = first_hit start_tests f

-- the cell of these fields
unfoldable pub cell_of : CellBytes → Cell
cell_of x = elim (eqb x.kind 1) [
  | true ↦ empty1
  | false ↦ elim (eqb x.kind 2) [
    | true ↦ symbol x.symbol x.first x.second
    | false ↦ elim (eqb x.kind 3) [ true ↦ empty2 | false ↦ above x.first x.second ]
  ]
]

unfoldable pub cells_of : List ℕ → List Cell
cells_of file = map cell_of (cell_records file)

-- "A start's configuration is its control with the stack that its root cell stands for."
unfoldable pub configuration_of : List ℕ → Start → Configuration
configuration_of file x = record { control = x.control; stack = order2 (stack_at (stacks (cells_of file)) x.root) }

-- start n of a start file, and its configuration
unfoldable pub start_at : List ℕ → ℕ → Start
start_at file n = get_or (starts_of file) n (record { control = 0; root = 0 })

unfoldable pub configuration_at : List ℕ → ℕ → Configuration
configuration_at file n = configuration_of file (start_at file n)
