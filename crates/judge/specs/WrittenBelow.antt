-- A list written from the front, one element a turn.
-- Assumes nothing.
pub mod Laws
use Rattle.std.specs.Prelude.{ℕ, ◌≤◌, ◌≡◌, List, ◌++◌, length, take, drop}

-- The first i elements are those of `all`, and the others as they were.
pub record WrittenBelow (all before now : List ℕ) (i : ℕ) : Type 0 where
  pub is : now ≡ take i all ++ drop i before
  pub long : length now ≡ length before
  pub within : i ≤ length all
