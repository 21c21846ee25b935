-- Records written into the rows of a table, one after another.
-- Assumes nothing.
pub mod Laws
use Rattle.std.specs.Prelude.{ℕ, suc, List, [], ◌∷◌}
use Rattle.tables.specs.Rows.{Layout, put_row}

module _ {A : Type 0} (L : Layout A) where
  -- the table with these records in the rows from number k on, and all other rows as they were
  unfoldable pub written : List ℕ → ℕ → List A → List ℕ
  written t k [] = t
  written t k (a ∷ l) = written (put_row L t k a) (suc k) l
