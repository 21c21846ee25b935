-- The lines of the starts, one after another.
-- Assumes nothing.
pub mod Laws
use Rattle.std.specs.Prelude.{ℕ, ◌+◌, ◌*◌, ◌≤◌, ◌≡◌, List, length}
use Rattle.files.specs.Start.{Files}
use Rattle.services.specs.Listing.{start_lines}
use Rattle.text.specs.Written.{Written}

-- The lines of the first n starts are written from `at` on, each of at most 66 bytes.
pub record Lined (f : Files) (before : List ℕ) (at n : ℕ) (after : List ℕ) (end : ℕ) : Type 0 where
  pub written : Written before at (start_lines f 0 n) after end
  pub short : end ≤ at + n * 66
  pub long : length after ≡ length before
