-- Records by number, and tests over all of them one by one.
-- Assumes nothing.
use Prim.Native.Nat.{ℕ, zero, suc, ◌+◌, ◌*◌, ◌-◌, ◌<◌, ◌≤◌}
use Rattle.std.specs.Prelude.{Bool, ◌≡◌, length, take, drop}
use Rattle.std.proofs.Math.Path.{refl}
use Rattle.std.proofs.Common.{ap, ap₂, sym, ◌∙◌, length-take, length-drop, drop-drop, take-take, zero-add, zero-mul, one-mul, suc-mul, suc-add, add-one, arith}
use mathlib.Core.List.{List, [], ◌∷◌, ◌++◌, map, map-append}
use Rattle.std.proofs.Math.Seq.{take-nil}
use Rattle.std.specs.List.{list_all, range_with_len}
use Rattle.words.specs.Lists.{every}
use Rattle.words.specs.Laws.Tests.{by_test}
use Rattle.words.specs.Order.{less, rising, rising_from}
use Rattle.files.specs.Bytes.{count_of, offset_of, records, records_of}
use Rattle.bytes_in.specs.Records.{record_at, body_of, records_from}

-- ---- records by number

records_add : (i m size : ℕ) (b : List ℕ) → records (i + m) size b ≡ records i size b ++ records m size (drop (i * size) b)
unfolding records
records_add zero m size b = rw (zero-add, zero-mul)
records_add (suc i) m size b =
    let e : size + i * size ≡ suc i * size = omega (arith, suc-mul i size) in
    rw (suc-add, records_add i m size (drop size b), drop-drop, e)

-- the records before number i, that one and the others
pub records_split : (n size i : ℕ) (b : List ℕ) → i < n
    → records n size b ≡ records i size b ++ record_at size i b ∷ records (n - suc i) size (drop size (drop (i * size) b))
unfolding records record_at
records_split n size i b h =
    let e : n ≡ i + suc (n - suc i) = omega arith in
    ap (λ (k : ℕ). records k size b) e ∙ records_add i (suc (n - suc i)) size b

pub records_more : (size i : ℕ) (b : List ℕ) → records (i + 1) size b ≡ records i size b ++ (record_at size i b ∷ [])
unfolding records record_at
records_more size i b = records_add i 1 size b

pub from_last : (n size : ℕ) (b : List ℕ) → records_from n size n b ≡ []
unfolding records_from records
from_last n size b = let e : n - n ≡ 0 = omega arith in rw e

pub from_first : (n size : ℕ) (b : List ℕ) → records_from n size 0 b ≡ records n size b
unfolding records_from
from_first n size b =
    let e : n - 0 ≡ n = omega arith in
    rw (e, zero-mul)

pub from_cons : (n size i : ℕ) (b : List ℕ) → i < n → records_from n size i b ≡ record_at size i b ∷ records_from n size (i + 1) b
unfolding records_from record_at records
from_cons n size i b h =
    let e : n - i ≡ suc (n - (i + 1)) = omega arith in
    let d : i * size + size ≡ (i + 1) * size = sym (suc-mul i size) ∙ ap (λ (k : ℕ). k * size) (sym (add-one i)) in
    rw (e, drop-drop, d)

drop_take : (k r : ℕ) (b : List ℕ) → drop k (take (k + r) b) ≡ take r (drop k b)
drop_take zero r b = rw zero-add
drop_take (suc k) r [] = rw (suc-add, take-nil)
drop_take (suc k) r (x ∷ xs) = rw suc-add (drop_take k r xs)

-- a body's records are those of the file from its offset on
pub records_part : (n size m : ℕ) (b : List ℕ) → n * size ≤ m → records n size (take m b) ≡ records n size b
unfolding records
records_part zero size m b h = refl
records_part (suc n) size m b h =
    let k : size + n * size ≤ m = omega (arith, suc-mul n size) in
    let e : m ≡ size + (m - size) = omega arith in
    ap₂ ◌∷◌
    (take-take size m b (omega arith))
    (ap (λ (i : ℕ). records n size (drop size (take i b))) e
    ∙ ap (records n size) (drop_take size (m - size) b)
    ∙ records_part n size (m - size) (drop size b) (omega arith))

pub body_records : (file : List ℕ) (n size : ℕ) → records_of file n size ≡ records (count_of file n) size (body_of file n size)
unfolding records_of body_of
body_records file n size = sym (records_part (count_of file n) size (count_of file n * size) (drop (offset_of file n) file) (omega arith))

pub length_body : (file : List ℕ) (n size : ℕ) → offset_of file n + count_of file n * size ≤ length file
    → length (body_of file n size) ≡ count_of file n * size
unfolding body_of
length_body file n size h = simp (length-take, length-drop) (omega arith)

-- a body handed on with its number of records
pub body_fits : (file : List ℕ) (n size : ℕ) (part : List ℕ) (count : ℕ) → offset_of file n + count_of file n * size ≤ length file
    → part ≡ body_of file n size → count ≡ count_of file n → count * size ≤ length part
body_fits file n size part count h e f =
    let l : length part ≡ count_of file n * size = ap length e ∙ length_body file n size h in
    let m : count * size ≡ count_of file n * size = ap (λ (k : ℕ). k * size) f in
    omega arith

pub records_here : (file : List ℕ) (n size : ℕ) (part : List ℕ) (count : ℕ) → part ≡ body_of file n size → count ≡ count_of file n
    → records count size part ≡ records_of file n size
records_here file n size part count e f = rw (e, f) (sym (body_records file n size))

-- the part of a body that is its record number i
pub part_is : (size i : ℕ) (b : List ℕ) → take (i * size + size - i * size) (drop (i * size) b) ≡ record_at size i b
unfolding record_at
part_is size i b =
    let e : i * size + size - i * size ≡ size = omega arith in
    ap (λ (k : ℕ). take k (drop (i * size) b)) e

-- the part of the file that begins at the offset and has so many records
pub body_is : (file : List ℕ) (n size a count : ℕ) → a ≡ offset_of file n → count ≡ count_of file n
    → take (a + count * size - a) (drop a file) ≡ body_of file n size
unfolding body_of
body_is file n size a count e f =
    let z : a + count * size - a ≡ count * size = omega arith in
    rw (z, e, f)

-- ---- tests of every record, by number

module _ {A : Type 0} (f : List ℕ → A) (size : ℕ) (b : List ℕ) where
  pub map_more : (i : ℕ) → map f (records (i + 1) size b) ≡ map f (records i size b) ++ (f (record_at size i b) ∷ [])
  map_more i = ap (map f) (records_more size i b) ∙ map-append f (records i size b) _

  -- a test of the records of these numbers
  module _ (test : A → Bool) where
    every_from : (i k : ℕ) → list_all (λ j. test (f (record_at size j b))) (range_with_len i k) ≡ every test (map f (records k size (drop (i * size) b)))
    unfolding every records record_at
    every_from i zero = refl
    every_from i (suc k) =
        let d : i * size + size ≡ suc i * size = sym (suc-mul i size) in
        by_test (test (f (take size (drop (i * size) b))))
        (λ t. rw (every, t, drop-drop, d, add-one i) (every_from (suc i) k))
        (λ t. rw (every, t))

    pub every_is : (n : ℕ) → list_all (λ j. test (f (record_at size j b))) (range_with_len 0 n) ≡ every test (map f (records n size b))
    every_is n = every_from 0 n ∙ rw zero-mul

  module _ (key : A → List ℕ) where
    -- the record of this number comes after the one before it
    abbrev pub follows : ℕ → Bool
    follows j = less (key (f (record_at size (j - 1) b))) (key (f (record_at size j b)))

    follows_suc : (i : ℕ) → follows (suc i) ≡ less (key (f (record_at size i b))) (key (f (record_at size (suc i) b)))
    follows_suc i = ap (λ (j : ℕ). less (key (f (record_at size j b))) (key (f (record_at size (suc i) b)))) (let e : suc i - 1 ≡ i = omega arith in e)

    follow_from : (i k : ℕ) → list_all follows (range_with_len (suc i) k) ≡ rising_from key (f (record_at size i b)) (map f (records k size (drop (suc i * size) b)))
    unfolding rising_from records record_at
    follow_from i zero = refl
    follow_from i (suc k) =
        let d : suc i * size + size ≡ suc (suc i) * size = sym (suc-mul (suc i) size) in
        by_test (less (key (f (take size (drop (i * size) b)))) (key (f (take size (drop (suc i * size) b)))))
        (λ t. rw (follows_suc i, rising_from, t, drop-drop, d, add-one (suc i)) (follow_from (suc i) k))
        (λ t. rw (follows_suc i, rising_from, t))

    pub rising_is : (n : ℕ) → list_all follows (range_with_len 1 (n - 1)) ≡ rising key (map f (records n size b))
    unfolding rising records record_at
    rising_is zero = refl
    rising_is (suc n) = let e : suc n - 1 ≡ n = omega arith in rw e (follow_from 0 n ∙ rw (zero-mul, one-mul))
