-- Numbers in bytes, tables of contents, records, and refusals as the first hit in an ordered list of tests.
-- Assumes nothing.
pub mod Laws
use Rattle.std.specs.Prelude.{ℕ, zero, suc, ◌+◌, ◌*◌, Bool, true, false, ◌&&◌, List, [], ◌∷◌, map, length, take, drop, eqb, leb}

-- "Numbers in files are unsigned, low byte first."
unfoldable pub number : List ℕ → ℕ
number [] = 0
number (b ∷ bs) = b + 256 * number bs

-- the number in so many bytes from a place on
unfoldable pub field : ℕ → ℕ → List ℕ → ℕ
field at width bytes = number (take width (drop at bytes))

-- n records of this size, one after another
unfoldable pub records : ℕ → ℕ → List ℕ → List (List ℕ)
records zero size bytes = []
records (suc n) size bytes = take size bytes ∷ records n size (drop size bytes)

-- a body's kind, its least and most number of records, and the bytes of a record
pub record Body : Type 0 where
  pub kind : ℕ
  pub least : ℕ
  pub most : ℕ
  pub size : ℕ

-- "A table of contents of .. lines (kind 2 bytes, count 2, offset 4)": line n, from 0, after the first byte.
unfoldable pub kind_of : List ℕ → ℕ → ℕ
kind_of file n = field (1 + 8 * n) 2 file

unfoldable pub count_of : List ℕ → ℕ → ℕ
count_of file n = field (3 + 8 * n) 2 file

unfoldable pub offset_of : List ℕ → ℕ → ℕ
offset_of file n = field (5 + 8 * n) 4 file

-- Line n has the body's kind, a count in its range, and the offset.
unfoldable pub line_right : List ℕ → ℕ → ℕ → Body → Bool
line_right file n offset b =
    eqb (kind_of file n) b.kind
    && leb b.least (count_of file n)
    && leb (count_of file n) b.most
    && eqb (offset_of file n) offset

-- "Each body begins where the one before it ends, and the last ends at the file's end": lines n and following, the next body beginning
-- at this offset.
unfoldable pub bodies_placed : List ℕ → ℕ → ℕ → List Body → Bool
bodies_placed file n offset [] = eqb offset (length file)
bodies_placed file n offset (b ∷ bs) = elim (line_right file n offset b) [
  | true ↦ bodies_placed file (suc n) (offset + count_of file n * b.size) bs
  | false ↦ false
]

-- "Then the bodies": the first starts after the first byte and a line of contents for each.
unfoldable pub placed : List Body → List ℕ → Bool
placed bodies file = bodies_placed file 0 (1 + 8 * length bodies) bodies

-- the records of the body of line n
unfoldable pub records_of : List ℕ → ℕ → ℕ → List (List ℕ)
records_of file n size = records (count_of file n) size (drop (offset_of file n) file)

-- a test of an input, and the number with which an input is refused that fails it
pub record Test (X : Type 0) : Type 0 where
  pub fails : X → Bool
  pub refusal : ℕ

module _ {X : Type 0} where
  -- "The lowest number that applies is returned": the number of the first test that fails, or 0 where none does.
  unfoldable pub first_hit : List (Test X) → X → ℕ
  first_hit [] x = 0
  first_hit (t ∷ ts) x = elim (t.fails x) [ true ↦ t.refusal | false ↦ first_hit ts x ]

-- the tests of a part of the input
unfoldable pub tests_on : {X Y : Type 0} → (Y → X) → List (Test X) → List (Test Y)
tests_on part ts = map (λ t. record { fails = λ y. t.fails (part y); refusal = t.refusal }) ts
