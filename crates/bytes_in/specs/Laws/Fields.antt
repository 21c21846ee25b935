-- Laws of numbers in bytes: a number of more bytes by numbers of fewer, and by its bytes.
-- Assumes nothing.
use Rattle.std.specs.Prelude.{ℕ, zero, suc, ◌+◌, ◌*◌, ◌^◌, ◌≡◌, refl, List, [], ◌∷◌, get_or}
use Rattle.std.proofs.Common.{ap, add-zero, zero-add, suc-add, add-suc, mul_assoc, one-mul, add-one, arith}
use Rattle.std.proofs.Math.Nat.{pow-succ'}
use Rattle.files.specs.Bytes.{number, field}

-- Past the end of the list each byte is 0.
pub field_suc : (at width : ℕ) (b : List ℕ) → field at (suc width) b ≡ get_or b at 0 + 256 * field (suc at) width b
unfolding field number
field_suc zero zero [] = refl
field_suc zero (suc width) [] = refl
field_suc (suc at) zero [] = refl
field_suc (suc at) (suc width) [] = refl
field_suc zero width (x ∷ xs) = refl
field_suc (suc at) width (x ∷ xs) = field_suc at width xs

field_none : (at : ℕ) (b : List ℕ) → field at 0 b ≡ 0
unfolding field number
field_none zero [] = refl
field_none (suc at) [] = refl
field_none zero (x ∷ xs) = refl
field_none (suc at) (x ∷ xs) = field_none at xs

-- a number of n + m bytes is that of the first n and that of the others
pub field_join : (at n m : ℕ) (b : List ℕ) → field at (n + m) b ≡ field at n b + 256 ^ n * field (at + n) m b
field_join at zero m b = simp (field_none, zero-add, add-zero, one-mul)
field_join at (suc n) m b =
    let h : field (suc at) (n + m) b ≡ field (suc at) n b + 256 ^ n * field (suc at + n) m b = field_join (suc at) n m b in
    let p : 256 ^ suc n * field (at + suc n) m b ≡ 256 * (256 ^ n * field (suc at + n) m b) = simp (pow-succ', mul_assoc, add-suc, suc-add) in
    simp (suc-add, field_suc) (omega arith)

pub field_two : (at : ℕ) (b : List ℕ) → field at 2 b ≡ get_or b at 0 + 256 * get_or b (at + 1) 0
field_two at b =
    let e : field (suc at) 1 b ≡ get_or b (suc at) 0 + 256 * field (suc (suc at)) 0 b = field_suc (suc at) 0 b in
    let z : field (suc (suc at)) 0 b ≡ 0 = field_none (suc (suc at)) b in
    rw (add-one, field_suc at 1 b) (omega arith)

pub field_four : (at : ℕ) (b : List ℕ) → field at 4 b ≡ field at 2 b + 65536 * field (at + 2) 2 b
field_four at b = field_join at 2 2 b

pub field_eight : (at : ℕ) (b : List ℕ) → field at 8 b ≡ field at 4 b + 4294967296 * field (at + 4) 4 b
field_eight at b = field_join at 4 4 b

-- ---- byte by byte

place : (at k : ℕ) (b : List ℕ) {j : ℕ} → j ≡ at + k → get_or b j 0 ≡ get_or b (at + k) 0
place at k b e = ap (λ (i : ℕ). get_or b i 0) e

pub field_bytes2 : (at : ℕ) (b : List ℕ) → field at 2 b ≡ get_or b at 0 + get_or b (at + 1) 0 * 256
field_bytes2 at b = omega (arith, field_two at b)

pub field_bytes4 : (at : ℕ) (b : List ℕ)
    → field at 4 b ≡ get_or b at 0 + get_or b (at + 1) 0 * 256 + get_or b (at + 2) 0 * 65536 + get_or b (at + 3) 0 * 16777216
field_bytes4 at b =
    let three : get_or b (at + 2 + 1) 0 ≡ get_or b (at + 3) 0 = place at 3 b (omega arith) in
    omega (arith, field_four at b, field_two at b, field_two (at + 2) b)

pub field_bytes8 : (at : ℕ) (b : List ℕ)
    → field at 8 b ≡ get_or b at 0 + get_or b (at + 1) 0 * 256 + get_or b (at + 2) 0 * 65536 + get_or b (at + 3) 0 * 16777216
    + get_or b (at + 4) 0 * 4294967296 + get_or b (at + 5) 0 * 1099511627776 + get_or b (at + 6) 0 * 281474976710656 + get_or b (at + 7) 0 * 72057594037927936
field_bytes8 at b =
    let five : get_or b (at + 4 + 1) 0 ≡ get_or b (at + 5) 0 = place at 5 b (omega arith) in
    let six : get_or b (at + 4 + 2) 0 ≡ get_or b (at + 6) 0 = place at 6 b (omega arith) in
    let seven : get_or b (at + 4 + 3) 0 ≡ get_or b (at + 7) 0 = place at 7 b (omega arith) in
    omega (arith, field_eight at b, field_bytes4 at b, field_bytes4 (at + 4) b)
