-- The input of saturate, as the values of the code give it.
-- Assumes nothing.
pub mod Laws
use Rattle.std.specs.Prelude.{ℕ, List}
use Rattle.services.specs.Saturate.{Lent}

abbrev pub lent_of : List ℕ → ℕ → ℕ → Lent
lent_of case moves entries = record { case = case; moves = moves; entries = entries }
