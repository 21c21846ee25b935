-- Files written from the records of their bodies, and read back.
-- Assumes nothing.
pub mod Laws
use Rattle.std.specs.Prelude.{ℕ, zero, suc, ◌+◌, ◌*◌, ◌/◌, ◌%◌, List, [], ◌∷◌, ◌++◌, length}
use Rattle.words.specs.Lists.{each}
use Rattle.files.specs.Bytes.{Body, records_of}

-- a number in so many bytes, low byte first
unfoldable pub bytes_of : ℕ → ℕ → List ℕ
bytes_of zero n = []
bytes_of (suc width) n = n % 256 ∷ bytes_of width (n / 256)

-- a body and its records
pub record Part : Type 0 where
  pub body : Body
  pub records : List (List ℕ)

-- the records' bytes, one after another
unfoldable pub flat : List (List ℕ) → List ℕ
flat xs = each xs (λ x. x)

-- A line of contents: "kind 2 bytes, count 2, offset 4".
unfoldable pub line : ℕ → Part → List ℕ
line offset x = bytes_of 2 x.body.kind ++ (bytes_of 2 (length x.records) ++ bytes_of 4 offset)

-- the table of contents, the first body beginning at this offset
unfoldable pub contents : ℕ → List Part → List ℕ
contents offset [] = []
contents offset (x ∷ xs) = line offset x ++ contents (offset + length x.records * x.body.size) xs

-- the file of this first byte with these parts
unfoldable pub encode : ℕ → List Part → List ℕ
encode first xs = first ∷ (contents (1 + 8 * length xs) xs ++ each xs (λ x. flat x.records))

-- the parts that the lines n and following give
unfoldable pub decode_from : ℕ → List Body → List ℕ → List Part
decode_from n [] file = []
decode_from n (b ∷ bs) file = record { body = b; records = records_of file n b.size } ∷ decode_from (suc n) bs file

-- the parts of a file with these bodies
unfoldable pub decode : List Body → List ℕ → List Part
decode bodies file = decode_from 0 bodies file
