-- The first success of a search over a list, and over the numbers below a bound.
-- Assumes nothing.
pub mod Laws
use Rattle.std.specs.Prelude.{ℕ, zero, suc, Bool, true, false, List, [], ◌∷◌}
use Rattle.std.proofs.Math.Option.{Option, none, some}

module _ {B : Type 0} where
  -- the first answer, or else the second
  unfoldable pub or_else : Option B → Option B → Option B
  or_else none o = o
  or_else (some y) o = some y

  -- the answer where the test holds, and none otherwise
  unfoldable pub only_if : Bool → Option B → Option B
  only_if true o = o
  only_if false o = none

  -- there is an answer
  unfoldable pub is_some : Option B → Bool
  is_some none = false
  is_some (some y) = true

  -- the first success of the search for the numbers below n
  unfoldable pub first_below : ℕ → (ℕ → Option B) → Option B
  first_below zero f = none
  first_below (suc n) f = or_else (first_below n f) (f n)

-- the first success of the search for the elements
unfoldable pub first_of : {A B : Type 0} → List A → (A → Option B) → Option B
first_of [] f = none
first_of (x ∷ xs) f = or_else (f x) (first_of xs f)
