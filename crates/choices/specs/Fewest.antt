-- The search for the member of a set that has the fewest choices.
-- Assumes nothing.
pub mod Laws
use Rattle.std.specs.Prelude.{ℕ, ◌<◌, true, ◌≡◌}
use Rattle.words.specs.Sets.{member}

-- The states of `rest`, which are still to come, and `best` are members of `left`.
pub record Among (left rest best : ℕ) : Type 0 where
  pub rest_in : (q : ℕ) → member rest q ≡ true → member left q ≡ true
  pub best_in : member left best ≡ true
  pub best_small : best < 64
