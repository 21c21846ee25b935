-- Text written into lent bytes at a place.
-- Assumes nothing.
pub mod Laws
use Rattle.std.specs.Prelude.{ℕ, ◌+◌, ◌≡◌, List, length}
use Rattle.std.proofs.lemmas.List.Edits.{sets}

-- The bytes afterwards are those before with the text from `at` on, and `end` is the place after the text.
pub record Written (before : List ℕ) (at : ℕ) (text after : List ℕ) (end : ℕ) : Type 0 where
  pub place : end ≡ at + length text
  pub is : after ≡ sets before at text
