-- The order of lists of numbers in which the first difference decides, and lists sorted by such a key.
-- Assumes nothing.
pub mod Laws
pub mod Rising
pub mod Slices
use Rattle.std.specs.Prelude.{ℕ, Bool, true, false, List, [], ◌∷◌, eqb, ltb}

-- k comes before l
unfoldable pub less : List ℕ → List ℕ → Bool
less [] [] = false
less [] (y ∷ ys) = true
less (x ∷ xs) [] = false
less (x ∷ xs) (y ∷ ys) = elim (ltb x y) [ true ↦ true | false ↦ elim (eqb x y) [ true ↦ less xs ys | false ↦ false ] ]

-- k and l are equal
unfoldable pub same : List ℕ → List ℕ → Bool
same [] [] = true
same [] (y ∷ ys) = false
same (x ∷ xs) [] = false
same (x ∷ xs) (y ∷ ys) = elim (eqb x y) [ true ↦ same xs ys | false ↦ false ]

module _ {A : Type 0} (key : A → List ℕ) where
  -- x in its place by key, unless an element of the same key is there
  unfoldable pub insert : A → List A → List A
  insert x [] = x ∷ []
  insert x (y ∷ ys) = elim (less (key x) (key y)) [
    | true ↦ x ∷ (y ∷ ys)
    | false ↦ elim (less (key y) (key x)) [ true ↦ y ∷ insert x ys | false ↦ y ∷ ys ]
  ]

  -- the elements by rising key, one of each key
  unfoldable pub sorted : List A → List A
  sorted [] = []
  sorted (x ∷ xs) = insert x (sorted xs)

  -- the keys of x and of all that follow are strictly increasing
  unfoldable pub rising_from : A → List A → Bool
  rising_from x [] = true
  rising_from x (y ∷ ys) = elim (less (key x) (key y)) [ true ↦ rising_from y ys | false ↦ false ]

  -- the keys are strictly increasing
  unfoldable pub rising : List A → Bool
  rising [] = true
  rising (x ∷ xs) = rising_from x xs
