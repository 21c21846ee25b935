-- A set halved until 0 is a member of what is left.
-- Assumes nothing.
pub mod Laws
use Rattle.std.specs.Prelude.{ℕ, ◌*◌, ◌^◌, ◌%◌, ◌<◌, ◌≡◌}

-- q halvings, fewer than w, leave an odd number of s
pub record Halved (w s q : ℕ) : Type 0 where
  pub left : ℕ
  pub is : s ≡ left * 2 ^ q
  pub odd : left % 2 ≡ 1
  pub place : q < w
