-- Records of a body, by number.
-- Assumes nothing.
pub mod Laws
use Rattle.std.specs.Prelude.{ℕ, ◌*◌, ◌-◌, List, take, drop}
use Rattle.files.specs.Bytes.{count_of, offset_of, records}

-- record number i, from 0
unfoldable pub record_at : ℕ → ℕ → List ℕ → List ℕ
record_at size i b = take size (drop (i * size) b)

-- the body of line n
unfoldable pub body_of : List ℕ → ℕ → ℕ → List ℕ
body_of file n size = take (count_of file n * size) (drop (offset_of file n) file)

-- the records number i and following, of n
unfoldable pub records_from : ℕ → ℕ → ℕ → List ℕ → List (List ℕ)
records_from n size i b = records (n - i) size (drop (i * size) b)
