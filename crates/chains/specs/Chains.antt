-- Chains: elements with numbers below 1,024 by their keys below 2,048, in a slice of 3,072 words. Word k holds the last element with key k,
-- word 2,048 + i the element before element i with the same key: as a number plus 1, and 0 where there is none.
-- Assumes nothing.
pub mod Laws
use Rattle.std.specs.Prelude.{ℕ, zero, suc, ◌+◌, ◌≤◌, ◌<◌, true, false, ◌≡◌, List, length, get_or, eqb, Option, Some, None}

-- an element as its number plus 1, and none as 0
abbrev pub number_after : Option ℕ → ℕ
number_after None = 0
number_after (Some i) = i + 1

-- the last of the first n elements whose key is k, as its number plus 1; 0 where there is none
unfoldable pub last_below : (ℕ → ℕ) → ℕ → ℕ → ℕ
last_below key k zero = 0
last_below key k (suc n) = elim (eqb (key n) k) [ true ↦ suc n | false ↦ last_below key k n ]

-- The chains of the first n elements, whose keys are given.
pub record Chained (key : ℕ → ℕ) (n : ℕ) (t : List ℕ) : Type 0 where
  pub long : length t ≡ 3072
  pub few : n ≤ 1024
  pub lasts : (k : ℕ) → k < 2048 → get_or t k 0 ≡ last_below key k n
  pub befores : (i : ℕ) → i < n → get_or t (2048 + i) 0 ≡ last_below key (key i) i
