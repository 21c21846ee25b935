-- The codes of operations: ours, and those of a tool's record.
-- Assumes nothing.
pub mod Laws
use Rattle.std.specs.Prelude.{ℕ, suc, Bool, true, false, not, ◌&&◌, List, [], ◌∷◌, get_or, eqb}

-- "Without it our table of codes holds": document 01's codes, in the order of its table.
unfoldable pub our_codes : List ℕ
our_codes = 1 ∷ 2 ∷ 3 ∷ 4 ∷ 5 ∷ 6 ∷ 7 ∷ 8 ∷ []

-- the number of x among these codes, the first of which has number n, and 0 where it is not among them
unfoldable pub number_from : ℕ → List ℕ → ℕ → ℕ
number_from n [] x = 0
number_from n (c ∷ cs) x = elim (eqb c x) [ true ↦ n | false ↦ number_from (suc n) cs x ]

-- "The record's nth byte, from 1, is the tool's code for our operation n": our code for the tool's code x. It is 0, the code of no
-- operation, for "a code not in the record".
unfoldable pub our_code : List ℕ → ℕ → ℕ
our_code codes x = number_from 1 codes x

-- Not 12, "the eight bytes are not all different, or one is zero": no byte is zero, and none stands among those after it.
unfoldable pub codes_right : List ℕ → Bool
codes_right [] = true
codes_right (c ∷ cs) = not (eqb c 0) && eqb (our_code cs c) 0 && codes_right cs

-- a rule's five bytes, p, a, code, b, p', with our code in the place of the tool's
unfoldable pub in_our_codes : List ℕ → List ℕ → List ℕ
in_our_codes codes x = get_or x 0 0 ∷ get_or x 1 0 ∷ our_code codes (get_or x 2 0) ∷ get_or x 3 0 ∷ get_or x 4 0 ∷ []
