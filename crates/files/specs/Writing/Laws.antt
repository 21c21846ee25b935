-- A file that is written from its parts has its bodies in place, and reading it gives the parts.
-- Assumes nothing.
use Rattle.std.specs.Prelude.{ℕ, zero, suc, ◌+◌, ◌*◌, ◌/◌, ◌^◌, ◌-◌, ◌<◌, ◌≤◌, true, ◌≡◌, refl, get_or, take, drop}
use Rattle.std.proofs.Math.Path.{ap, ap₂, sym}
use Rattle.std.proofs.Common.{◌∙◌, zero-mul, suc-mul, add_comm, length-take, length-drop, pow-add, take_at, drop_at}
use mathlib.Core.List.{List, [], ◌∷◌, ◌++◌, map, append-nil, append_assoc}
use native.Mathlib.Omega.{arith}
use Rattle.std.proofs.Math.ListN.{length, length-append}
use Rattle.std.proofs.lemmas.List.{length-map}
use borrow.Author.Tests.{eq-eqb, le-leb}
use Rattle.words.specs.Lists.{each}
use Rattle.files.specs.Bytes.{number, field, records, kind_of, count_of, offset_of, line_right, bodies_placed, placed, records_of}
use Rattle.files.specs.Writing.{bytes_of, Part, flat, line, contents, encode, decode_from, decode}

-- ---- numbers

length_bytes_of : (width n : ℕ) → length (bytes_of width n) ≡ width
unfolding bytes_of
length_bytes_of zero n = refl
length_bytes_of (suc width) n = ap suc (length_bytes_of width (n / 256))

-- a number that so many bytes can hold is read back
pub number_bytes_of : (width n : ℕ) → n < 256 ^ width → number (bytes_of width n) ≡ n
unfolding bytes_of number
number_bytes_of zero n l = let l' : n < 1 = l in omega arith
number_bytes_of (suc width) n l =
    let p : ℕ = 256 ^ width in
    let e : suc width ≡ 1 + width = omega arith in
    let f : 256 ^ suc width ≡ 256 * 256 ^ width = ap (λ (k : ℕ). 256 ^ k) e ∙ pow-add 256 1 width in
    let r : number (bytes_of width (n / 256)) ≡ n / 256 = number_bytes_of width (n / 256) (omega arith) in
    rw r (omega arith)

-- the field after so many bytes
field_at : (before bytes after : List ℕ) (at width : ℕ) → length before ≡ at → length bytes ≡ width → field at width (before ++ (bytes ++ after)) ≡ number bytes
unfolding field
field_at before bytes after at width e f =
    ap (λ (l : List ℕ). number (take width l)) (drop_at before (bytes ++ after) at e) ∙ ap number (take_at bytes after width f)

-- ---- records

-- each record has so many bytes
abbrev pub Sized : ℕ → List (List ℕ) → Type 0
Sized size [] = Unit {0}
Sized size (x ∷ xs) = (length x ≡ size) × Sized size xs

-- records that are read have their size, where there are enough bytes
pub sized_records : (n size : ℕ) (bytes : List ℕ) → n * size ≤ length bytes → Sized size (records n size bytes)
unfolding records
sized_records zero size bytes l = tt
sized_records (suc n) size bytes l =
    let k : size + n * size ≤ length bytes = omega (arith, suc-mul n size) in
    let d : length (drop size bytes) ≡ length bytes - size = length-drop size bytes in
    (simp length-take (omega arith), sized_records n size (drop size bytes) (omega arith))

pub length_flat : (size : ℕ) (xs : List (List ℕ)) → Sized size xs → length (flat xs) ≡ length xs * size
unfolding flat each
length_flat size [] s = sym (zero-mul size)
length_flat size (x ∷ xs) s =
    length-append x (each xs (λ y. y)) ∙ ap₂ ◌+◌ s.0 (length_flat size xs s.1) ∙ add_comm size (length xs * size) ∙ sym (suc-mul (length xs) size)

-- records that stand one after another are read back
pub records_flat : (size : ℕ) (xs : List (List ℕ)) (after : List ℕ) → Sized size xs → records (length xs) size (flat xs ++ after) ≡ xs
unfolding flat each records
records_flat size [] after s = refl
records_flat size (x ∷ xs) after s =
    ap₂ ◌∷◌
    (ap (take size) (append_assoc x (each xs (λ y. y)) after) ∙ take_at x (each xs (λ y. y) ++ after) size s.0)
    (ap (λ (l : List ℕ). records (length xs) size (drop size l)) (append_assoc x (each xs (λ y. y)) after)
    ∙ ap (records (length xs) size) (drop_at x (each xs (λ y. y) ++ after) size s.0)
    ∙ records_flat size xs after s.1)

-- ---- parts

-- the part's numbers fit their fields, its count is in the body's range, and its records have the body's size
pub record PartFits (x : Part) : Type 0 where
  pub kind_fits : x.body.kind < 65536
  pub count_fits : length x.records < 65536
  pub count_least : x.body.least ≤ length x.records
  pub count_most : length x.records ≤ x.body.most
  pub sized : Sized x.body.size x.records

abbrev pub PartsFit : List Part → Type 0
PartsFit [] = Unit {0}
PartsFit (x ∷ xs) = PartFits x × PartsFit xs

-- the bytes of the parts' records
abbrev body_bytes : List Part → List ℕ
body_bytes xs = each xs (λ x. flat x.records)

length_line : (offset : ℕ) (x : Part) → length (line offset x) ≡ 8
unfolding line
length_line offset x =
    let k : List ℕ = bytes_of 2 x.body.kind in
    let c : List ℕ = bytes_of 2 (length x.records) in
    let o : List ℕ = bytes_of 4 offset in
    let a : length (k ++ (c ++ o)) ≡ length k + length (c ++ o) = length-append k (c ++ o) in
    let b : length (c ++ o) ≡ length c + length o = length-append c o in
    let lk : length k ≡ 2 = length_bytes_of 2 x.body.kind in
    let lc : length c ≡ 2 = length_bytes_of 2 (length x.records) in
    let lo : length o ≡ 4 = length_bytes_of 4 offset in
    omega arith

length_contents : (offset : ℕ) (xs : List Part) → length (contents offset xs) ≡ 8 * length xs
unfolding contents
length_contents offset [] = refl
length_contents offset (x ∷ xs) =
    let r : List ℕ = contents (offset + length x.records * x.body.size) xs in
    let a : length (line offset x ++ r) ≡ length (line offset x) + length r = length-append (line offset x) r in
    let b : length (line offset x) ≡ 8 = length_line offset x in
    let d : length r ≡ 8 * length xs = length_contents (offset + length x.records * x.body.size) xs in
    omega arith

-- the bytes that the parts' records take
abbrev pub body_sizes : List Part → ℕ
body_sizes [] = 0
body_sizes (x ∷ xs) = length x.records * x.body.size + body_sizes xs

length_bodies : (xs : List Part) → PartsFit xs → length (body_bytes xs) ≡ body_sizes xs
unfolding each
length_bodies [] f = refl
length_bodies (x ∷ xs) f =
    length-append (flat x.records) (body_bytes xs) ∙ ap₂ ◌+◌ (length_flat x.body.size x.records f.0.sized) (length_bodies xs f.1)

pub length_encode : (first : ℕ) (xs : List Part) → PartsFit xs → length (encode first xs) ≡ 1 + 8 * length xs + body_sizes xs
unfolding encode
length_encode first xs f =
    let c : List ℕ = contents (1 + 8 * length xs) xs in
    let a : length (c ++ body_bytes xs) ≡ length c + length (body_bytes xs) = length-append c (body_bytes xs) in
    let b : length c ≡ 8 * length xs = length_contents (1 + 8 * length xs) xs in
    let d : length (body_bytes xs) ≡ body_sizes xs = length_bodies xs f in
    omega arith

-- ---- a line

module _ (before : List ℕ) (n offset : ℕ) (x : Part) (after : List ℕ) (l : length before ≡ 1 + 8 * n) (f : PartFits x) where
  kind : List ℕ
  kind = bytes_of 2 x.body.kind

  count : List ℕ
  count = bytes_of 2 (length x.records)

  place : List ℕ
  place = bytes_of 4 offset

  abbrev written : List ℕ
  written = before ++ (line offset x ++ after)

  -- the file, with the count and the offset in sight
  count_here : written ≡ (before ++ kind) ++ (count ++ (place ++ after))
  unfolding line kind count place
  count_here =
      ap (λ (z : List ℕ). before ++ z) (append_assoc kind (count ++ place) after ∙ ap (λ (z : List ℕ). kind ++ z) (append_assoc count place after))
      ∙ sym (append_assoc before kind (count ++ (place ++ after)))

  line_kind : kind_of written n ≡ x.body.kind
  unfolding line kind_of kind count place
  line_kind =
      ap (λ (z : List ℕ). field (1 + 8 * n) 2 (before ++ z)) (append_assoc kind (count ++ place) after)
      ∙ field_at before kind ((count ++ place) ++ after) (1 + 8 * n) 2 l (length_bytes_of 2 x.body.kind)
      ∙ number_bytes_of 2 x.body.kind f.kind_fits

  line_count : count_of written n ≡ length x.records
  unfolding count_of kind count
  line_count =
      let a : length (before ++ kind) ≡ length before + length kind = length-append before kind in
      let b : length kind ≡ 2 = length_bytes_of 2 x.body.kind in
      ap (field (3 + 8 * n) 2) count_here
      ∙ field_at (before ++ kind) count (place ++ after) (3 + 8 * n) 2 (omega arith) (length_bytes_of 2 (length x.records))
      ∙ number_bytes_of 2 (length x.records) f.count_fits

  line_offset : offset < 4294967296 → offset_of written n ≡ offset
  unfolding offset_of kind count place
  line_offset small =
      let a : length (before ++ kind) ≡ length before + length kind = length-append before kind in
      let b : length kind ≡ 2 = length_bytes_of 2 x.body.kind in
      let c : length ((before ++ kind) ++ count) ≡ length (before ++ kind) + length count = length-append (before ++ kind) count in
      let d : length count ≡ 2 = length_bytes_of 2 (length x.records) in
      ap (field (5 + 8 * n) 4) (count_here ∙ sym (append_assoc (before ++ kind) count (place ++ after)))
      ∙ field_at ((before ++ kind) ++ count) place after (5 + 8 * n) 4 (omega arith) (length_bytes_of 4 offset)
      ∙ number_bytes_of 4 offset small

-- ---- line by line

-- The file's lines from n on and its bodies from this offset on are those of the parts.
record Stands (file : List ℕ) (n offset : ℕ) (xs : List Part) : Type 0 where
  pub before : List ℕ
  pub between : List ℕ
  pub is : file ≡ before ++ (contents offset xs ++ (between ++ body_bytes xs))
  pub lines_before : length before ≡ 1 + 8 * n
  pub begins : offset ≡ length before + 8 * length xs + length between
  pub short : length file < 4294967296

module _ (file : List ℕ) (n offset : ℕ) (x : Part) (xs : List Part) (s : Stands file n offset (x ∷ xs)) (f : PartFits x) where
  next : ℕ
  next = offset + length x.records * x.body.size

  after : List ℕ
  after = contents next xs ++ (s.between ++ body_bytes (x ∷ xs))

  here : file ≡ s.before ++ (line offset x ++ after)
  unfolding contents after next
  here = s.is ∙ ap (λ (z : List ℕ). s.before ++ z) (append_assoc (line offset x) (contents next xs) (s.between ++ body_bytes (x ∷ xs)))

  first_kind : kind_of file n ≡ x.body.kind
  first_kind = ap (λ (z : List ℕ). kind_of z n) here ∙ line_kind s.before n offset x after s.lines_before f

  first_count : count_of file n ≡ length x.records
  first_count = ap (λ (z : List ℕ). count_of z n) here ∙ line_count s.before n offset x after s.lines_before f

  -- what stands before the body
  lead : List ℕ
  lead = s.before ++ (contents offset (x ∷ xs) ++ s.between)

  body_here : file ≡ lead ++ body_bytes (x ∷ xs)
  unfolding lead
  body_here =
      s.is
      ∙ ap (λ (z : List ℕ). s.before ++ z) (sym (append_assoc (contents offset (x ∷ xs)) s.between (body_bytes (x ∷ xs))))
      ∙ sym (append_assoc s.before (contents offset (x ∷ xs) ++ s.between) (body_bytes (x ∷ xs)))

  length_lead : length lead ≡ offset
  unfolding lead
  length_lead =
      let a : length (s.before ++ (contents offset (x ∷ xs) ++ s.between)) ≡ length s.before + length (contents offset (x ∷ xs) ++ s.between) = length-append s.before _ in
      let b : length (contents offset (x ∷ xs) ++ s.between) ≡ length (contents offset (x ∷ xs)) + length s.between = length-append (contents offset (x ∷ xs)) _ in
      let c : length (contents offset (x ∷ xs)) ≡ 8 * length (x ∷ xs) = length_contents offset (x ∷ xs) in
      let d : offset ≡ length s.before + 8 * length (x ∷ xs) + length s.between = s.begins in
      omega arith

  first_offset : offset_of file n ≡ offset
  first_offset =
      let a : length file ≡ length (lead ++ body_bytes (x ∷ xs)) = ap length body_here in
      let b : length (lead ++ body_bytes (x ∷ xs)) ≡ length lead + length (body_bytes (x ∷ xs)) = length-append lead _ in
      let c : length lead ≡ offset = length_lead in
      let d : length file < 4294967296 = s.short in
      ap (λ (z : List ℕ). offset_of z n) here ∙ line_offset s.before n offset x after s.lines_before f (omega arith)

  first_records : records_of file n x.body.size ≡ x.records
  unfolding records_of each
  first_records =
      ap₂ (λ (c o : ℕ). records c x.body.size (drop o file)) first_count first_offset
      ∙ ap (λ (z : List ℕ). records (length x.records) x.body.size (drop offset z)) body_here
      ∙ ap (records (length x.records) x.body.size) (drop_at lead (flat x.records ++ body_bytes xs) offset length_lead)
      ∙ records_flat x.body.size x.records (body_bytes xs) f.sized

  first_right_lem : line_right file n offset x.body ≡ true
  unfolding line_right
  first_right_lem =
      simp (eq-eqb (kind_of file n) x.body.kind first_kind, first_count, le-leb x.body.least (length x.records) f.count_least, le-leb (length x.records) x.body.most f.count_most, eq-eqb (offset_of file n) offset first_offset)

  -- the lines and bodies after it
  stands_next : Stands file (suc n) next xs
  unfolding next after each
  stands_next =
      let lb : length (s.before ++ line offset x) ≡ length s.before + length (line offset x) = length-append s.before _ in
      let ll : length (line offset x) ≡ 8 = length_line offset x in
      let l : length s.before ≡ 1 + 8 * n = s.lines_before in
      let lm : length (s.between ++ flat x.records) ≡ length s.between + length (flat x.records) = length-append s.between _ in
      let lf : length (flat x.records) ≡ length x.records * x.body.size = length_flat x.body.size x.records f.sized in
      let d : offset ≡ length s.before + 8 * length (x ∷ xs) + length s.between = s.begins in
      record {
        before = s.before ++ line offset x;
        between = s.between ++ flat x.records;
        is =
            here
            ∙ sym (append_assoc s.before (line offset x) after)
            ∙ ap (λ (z : List ℕ). (s.before ++ line offset x) ++ (contents next xs ++ z)) (sym (append_assoc s.between (flat x.records) (body_bytes xs)));
        lines_before = omega arith;
        begins = omega arith;
        short = s.short;
      }

-- ---- all lines

stands_placed : (file : List ℕ) (n offset : ℕ) (xs : List Part) → PartsFit xs → Stands file n offset xs → bodies_placed file n offset (map (λ x. x.body) xs) ≡ true
unfolding bodies_placed contents each next
stands_placed file n offset [] f s =
    let a : length file ≡ length (s.before ++ (s.between ++ [])) = ap length s.is in
    let b : length (s.before ++ (s.between ++ [])) ≡ length s.before + length (s.between ++ []) = length-append s.before _ in
    let c : length (s.between ++ []) ≡ length s.between = ap length (append-nil s.between) in
    let d : offset ≡ length s.before + 8 * 0 + length s.between = s.begins in
    eq-eqb offset (length file) (omega arith)
stands_placed file n offset (x ∷ xs) f s =
    rw (bodies_placed, first_right_lem file n offset x xs s f.0, first_count file n offset x xs s f.0)
    (stands_placed file (suc n) (offset + length x.records * x.body.size) xs f.1 (stands_next file n offset x xs s f.0))

stands_read : (file : List ℕ) (n offset : ℕ) (xs : List Part) → PartsFit xs → Stands file n offset xs → decode_from n (map (λ x. x.body) xs) file ≡ xs
unfolding decode_from
stands_read file n offset [] f s = refl
stands_read file n offset (x ∷ xs) f s =
    ap₂ ◌∷◌ (λ i. record { body = x.body; records = first_records file n offset x xs s f.0 i })
    (stands_read file (suc n) (next file n offset x xs s f.0) xs f.1 (stands_next file n offset x xs s f.0))

-- ---- the whole file

pub first_encode : (first : ℕ) (xs : List Part) → get_or (encode first xs) 0 0 ≡ first
unfolding encode
first_encode first xs = refl

module _ (first : ℕ) (xs : List Part) (f : PartsFit xs) (short : length (encode first xs) < 4294967296) where
  encode_stands : Stands (encode first xs) 0 (1 + 8 * length xs) xs
  unfolding encode
  encode_stands =
      record {
        before = first ∷ [];
        between = [];
        is = refl;
        lines_before = refl;
        begins = omega arith;
        short = short;
      }

  -- the bodies are in place
  pub encode_placed : placed (map (λ x. x.body) xs) (encode first xs) ≡ true
  unfolding placed
  encode_placed =
      ap (λ (k : ℕ). bodies_placed (encode first xs) 0 (1 + 8 * k) (map (λ x. x.body) xs)) (length-map xs (λ x. x.body))
      ∙ stands_placed (encode first xs) 0 (1 + 8 * length xs) xs f encode_stands

  -- reading gives back what was written
  pub decode_encode : decode (map (λ x. x.body) xs) (encode first xs) ≡ xs
  unfolding decode
  decode_encode = stands_read (encode first xs) 0 (1 + 8 * length xs) xs f encode_stands
