-- The loop that copies one slice into another, whatever the width of its words.
-- Assumes nothing.
pub mod Laws
use Rattle.std.specs.Prelude.{ℕ, ◌≤◌, ◌≡◌, List, length}
use Rattle.std.proofs.Math.Seq.{paste}

-- The first i words of s stand in t from `at` on, and its other words are those of t₀.
pub record Copied (t₀ : List ℕ) (at : ℕ) (s : List ℕ) (i : ℕ) (t : List ℕ) : Type 0 where
  pub within : i ≤ length s
  pub is : t ≡ paste t₀ at s i
  pub long : length t ≡ length t₀
