-- Numbers written one after another, a space before each.
-- Assumes nothing.
pub mod Laws
use Rattle.std.specs.Prelude.{ℕ, ◌+◌, ◌*◌, ◌≤◌, ◌≡◌, List, length, take}
use Rattle.services.specs.Run.{spaced_numbers}
use Rattle.text.specs.Written.{Written}

-- The first i numbers are written from `at` on, a space before each, and take at most six bytes each.
pub record Spaced (before : List ℕ) (at : ℕ) (ns : List ℕ) (i : ℕ) (after : List ℕ) (end : ℕ) : Type 0 where
  pub within : i ≤ length ns
  pub written : Written before at (spaced_numbers (take i ns)) after end
  pub short : end ≤ at + 6 * i
  pub long : length after ≡ length before
