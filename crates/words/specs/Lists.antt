-- Lists: what the toolchain's library lacks for native numbers and Boolean tests.
-- Assumes nothing.
pub mod Laws
pub mod Choices
pub mod Once
use Rattle.std.specs.Prelude.{ℕ, suc, Bool, true, false, List, [], ◌∷◌, ◌++◌, map, replicate}
use Rattle.std.proofs.Math.Option.{Option, none, some}

-- n words that are all zero
abbrev pub zeros : ℕ → List ℕ
zeros n = replicate n 0

-- the lists that f gives for the elements, one after another
unfoldable pub each : {A B : Type 0} → List A → (A → List B) → List B
each [] f = []
each (x ∷ xs) f = f x ++ each xs f

module _ {A : Type 0} where
  -- the list where the test holds, and no element otherwise
  unfoldable pub when : Bool → List A → List A
  when true l = l
  when false l = []

  -- the elements that pass the test
  unfoldable pub only : (A → Bool) → List A → List A
  only test [] = []
  only test (x ∷ xs) = elim (test x) [ true ↦ x ∷ only test xs | false ↦ only test xs ]

  -- every element passes the test
  unfoldable pub every : (A → Bool) → List A → Bool
  every test [] = true
  every test (x ∷ xs) = elim (test x) [ true ↦ every test xs | false ↦ false ]

  -- some element passes the test
  unfoldable pub some_of : (A → Bool) → List A → Bool
  some_of test [] = false
  some_of test (x ∷ xs) = elim (test x) [ true ↦ true | false ↦ some_of test xs ]

  -- the first element that passes the test
  unfoldable pub first : (A → Bool) → List A → Option A
  first test [] = none
  first test (x ∷ xs) = elim (test x) [ true ↦ some x | false ↦ first test xs ]

  -- the numbers of the elements that pass the test, the first element having number n
  unfoldable pub places_from : ℕ → (A → Bool) → List A → List ℕ
  places_from n test [] = []
  places_from n test (x ∷ xs) = elim (test x) [ true ↦ n ∷ places_from (suc n) test xs | false ↦ places_from (suc n) test xs ]

  -- the numbers of the elements that pass the test, in rising order
  unfoldable pub places : (A → Bool) → List A → List ℕ
  places test l = places_from 0 test l

  -- One element of each list, in lexicographic order. Of no list there is exactly one choice, the empty one.
  unfoldable pub choices : List (List A) → List (List A)
  choices [] = [] ∷ []
  choices (l ∷ ls) = each l (λ x. map (λ xs. x ∷ xs) (choices ls))
