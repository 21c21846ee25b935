-- A set without one of its members.
-- Assumes nothing.
pub mod Laws
use Rattle.std.specs.Prelude.{ℕ, ◌-◌}
use Rattle.words.specs.Sets.{single}

-- the set of the members of s other than n, where n is one
unfoldable pub without : ℕ → ℕ → ℕ
without s n = s - single n
