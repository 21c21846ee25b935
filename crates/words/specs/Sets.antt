-- Sets of states as words: state n is a member exactly if bit n of the word is 1. The definitions hold for every width.
-- Assumes nothing.
use Rattle.std.specs.Prelude.{ℕ, zero, suc, ◌+◌, ◌*◌, ◌/◌, ◌%◌, ◌^◌, max, Bool, true, false, List, [], ◌∷◌, eqb}

-- n is a member of s
unfoldable pub member : ℕ → ℕ → Bool
member s n = eqb (s / 2 ^ n % 2) 1

-- the set whose only member is n: the one-bit word of n
unfoldable pub single : ℕ → ℕ
single n = 2 ^ n

-- The join of two sets, bit by bit from the lowest; the first argument bounds the number of bits left in a.
unfoldable pub join_bits : ℕ → ℕ → ℕ → ℕ
join_bits zero a b = b
join_bits (suc k) a b = elim (eqb a 0) [
  | true ↦ b
  | false ↦ join_bits k (a / 2) (b / 2) * 2 + max (a % 2) (b % 2)
]

-- the set of all that is a member of a or of b
unfoldable pub join : ℕ → ℕ → ℕ
join a b = join_bits a a b

-- the set of these states
unfoldable pub set_of : List ℕ → ℕ
set_of [] = 0
set_of (n ∷ ns) = join (single n) (set_of ns)

-- every member of a is a member of b
unfoldable pub part_of : ℕ → ℕ → Bool
part_of a b = eqb (join a b) b

-- The members of s, each n more than its place; the first argument bounds the number of bits left in s.
unfoldable pub members_from : ℕ → ℕ → ℕ → List ℕ
members_from zero n s = []
members_from (suc k) n s = elim (eqb s 0) [
  | true ↦ []
  | false ↦ elim (eqb (s % 2) 1) [ true ↦ n ∷ members_from k (suc n) (s / 2) | false ↦ members_from k (suc n) (s / 2) ]
]

-- the members of s in rising order
unfoldable pub members : ℕ → List ℕ
members s = members_from s 0 s
