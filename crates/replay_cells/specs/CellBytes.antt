-- Cells in lent bytes: six a cell, in the form of start body 2.
-- Assumes nothing.
pub mod Laws
use Rattle.std.specs.Prelude.{ℕ, ◌*◌, ◌/◌, ◌%◌, List, [], ◌∷◌}
use Rattle.std.proofs.lemmas.List.Edits.{sets}
use Rattle.walks.specs.Cell.{Cell, empty1, symbol, empty2, above}

-- the six bytes of a cell: kind, symbol, first and second, low byte first
unfoldable pub bytes_of : Cell → List ℕ
bytes_of empty1 = 1 ∷ 0 ∷ 0 ∷ 0 ∷ 0 ∷ 0 ∷ []
bytes_of (symbol a u s) = 2 ∷ a ∷ u % 256 ∷ u / 256 ∷ s % 256 ∷ s / 256 ∷ []
bytes_of empty2 = 3 ∷ 0 ∷ 0 ∷ 0 ∷ 0 ∷ 0 ∷ []
bytes_of (above w t) = 4 ∷ 0 ∷ w % 256 ∷ w / 256 ∷ t % 256 ∷ t / 256 ∷ []

-- the bytes where cell n is this one
unfoldable pub put_bytes : List ℕ → ℕ → Cell → List ℕ
put_bytes bytes n c = sets bytes (n * 6) (bytes_of c)

-- the symbol of a cell, 0 where it has none
unfoldable pub cell_symbol : Cell → ℕ
cell_symbol empty1 = 0
cell_symbol (symbol a u s) = a
cell_symbol empty2 = 0
cell_symbol (above w t) = 0
