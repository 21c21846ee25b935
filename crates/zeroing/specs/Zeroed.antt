-- The loop that writes zeros into a slice, whatever the width of its words.
-- Assumes nothing.
pub mod Laws
use Rattle.std.specs.Prelude.{ℕ, ◌≤◌, ◌≡◌, List, ◌++◌, length, drop, replicate}

-- The first i words of t are zero, and the others those of t₀.
pub record Zeroed {W : Type 0} (z : W) (t₀ t : List W) (i : ℕ) : Type 0 where
  pub words : t ≡ replicate i z ++ drop i t₀
  pub long : length t ≡ length t₀
  pub within : i ≤ length t₀
