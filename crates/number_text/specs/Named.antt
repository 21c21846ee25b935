-- The number that an argument names, one byte after another.
-- Assumes nothing.
pub mod Laws
use Rattle.std.specs.Prelude.{ℕ, ◌≤◌, ◌≡◌, length, take}
use mathlib.Core.List.{List, foldl}
use Rattle.services.specs.Run.{with_digit}

-- n is what the first i bytes give
pub record ReadTo (most : ℕ) (bytes : List ℕ) (i n : ℕ) : Type 0 where
  pub within : i ≤ length bytes
  pub is : n ≡ foldl (with_digit most) 0 (take i bytes)
  pub small : n ≤ most
