-- A table of contents is right exactly if each of its lines is, one after another.
-- Assumes nothing.
use Rattle.std.specs.Prelude.{ℕ, suc, ◌+◌, ◌*◌, ◌<◌, ◌≤◌, true, false, ◌&&◌, ◌≡◌, List, ◌∷◌, length, eqb, Some, None}
use Rattle.std.proofs.Common.{ap, ap₂, sym, ◌∙◌, mul-le-mul, add-one, arith}
use Rattle.words.specs.Laws.Tests.{by_test}
use Rattle.files.specs.Bytes.{Body, count_of, offset_of, line_right, bodies_placed, placed}
use Rattle.files.specs.Bytes.Laws.{line_facts, placed_bodies, placed_within}
use Rattle.bytes_in.specs.declared.Body.{Body as BodyValue}
use Rattle.bytes_in.specs.Contents.{the_body, the_bodies, next_body, PlacedFrom}
use Rattle.std.specs.Prelude.{get_or, drop}
use Rattle.std.proofs.Common.{drop-cons, drop_of_length-le}
use Rattle.std.proofs.lemmas.List.{length-map}

-- ---- one line

pub product_small : {a b : ℕ} → a < 65536 → b < 65536 → a * b < 4294967296
product_small {a} {b} h k =
    let p : a * b ≤ 65535 * 65535 = mul-le-mul {n₂ = 65535} {m₂ = 65535} (omega arith) (omega arith) in
    omega arith

pub next_body_right : (file : List ℕ) (n offset count at : ℕ) (b : Body) → line_right file n offset b ≡ true → at ≡ offset_of file n
    → count ≡ count_of file n → Some (at + count * b.size) ≡ next_body file n offset b
unfolding next_body
next_body_right file n offset count at b e f g =
    rw (e, next_body) (ap₂ (λ (x y : ℕ). Some (x + y * b.size)) (f ∙ (line_facts file n offset b e).offset_is) g)

pub next_body_wrong : (file : List ℕ) (n offset : ℕ) (b : Body) → line_right file n offset b ≡ false → None ≡ next_body file n offset b
unfolding next_body
next_body_wrong file n offset b e = rw (e, next_body)

next_at : (file : List ℕ) (n offset next : ℕ) (b : Body) → Some next ≡ next_body file n offset b
    → (line_right file n offset b ≡ true) × (next ≡ offset + count_of file n * b.size)
unfolding next_body
next_at file n offset next b e =
    by_test (line_right file n offset b)
    (λ h. let s : Some next ≡ Some (offset + count_of file n * b.size) = e ∙ rw (next_body, h) in (h, cc))
    (λ h.
    let s : Some next ≡ None = e ∙ rw (next_body, h) in
    let z : ◌≡◌ {A = ℕ} 0 1 = cc in
    absurd (omega arith))

next_wrong : (file : List ℕ) (n offset : ℕ) (b : Body) → None ≡ next_body file n offset b → line_right file n offset b ≡ false
unfolding next_body
next_wrong file n offset b e =
    by_test (line_right file n offset b)
    (λ h.
    let s : None ≡ Some (offset + count_of file n * b.size) = e ∙ rw (next_body, h) in
    let z : ◌≡◌ {A = ℕ} 0 1 = cc in
    absurd (omega arith))
    (λ h. h)

-- ---- all lines

pub placed_cons : (file : List ℕ) (n offset : ℕ) (b : Body) (bs : List Body)
    → bodies_placed file n offset (b ∷ bs) ≡ line_right file n offset b && bodies_placed file (suc n) (offset + count_of file n * b.size) bs
unfolding bodies_placed
placed_cons file n offset b bs = by_test (line_right file n offset b) (λ h. rw (bodies_placed, h)) (λ h. rw (bodies_placed, h))

-- the body of line n is placed, and the next one begins at the offset that is found
pub placed_at : (file : List ℕ) (n offset next : ℕ) (b : Body) (bs : List Body) → Some next ≡ next_body file n offset b
    → bodies_placed file n offset (b ∷ bs) ≡ bodies_placed file (suc n) next bs
placed_at file n offset next b bs e =
    let (right, same) = next_at file n offset next b e in
    placed_cons file n offset b bs ∙ rw (right, same)

pub placed_wrong : (file : List ℕ) (n offset : ℕ) (b : Body) (bs : List Body) → None ≡ next_body file n offset b
    → bodies_placed file n offset (b ∷ bs) ≡ false
placed_wrong file n offset b bs e = placed_cons file n offset b bs ∙ rw (next_wrong file n offset b e)

-- A file that is shorter than its contents has no bodies in place.
pub placed_short : (bs : List Body) (file : List ℕ) → length file < 1 + 8 * length bs → placed bs file ≡ false
placed_short bs file h =
    by_test (placed bs file)
    (λ e. let z : 1 + 8 * length bs ≤ length file = placed_within file 0 _ bs (placed_bodies bs file e) in absurd (omega arith))
    (λ e. e)

-- ---- a loop over the lines

module _ (file : List ℕ) (table : List BodyValue) (first : ℕ) where
  bodies_cons : (i : ℕ) (b d : BodyValue) → i < length table → b ≡ get_or table i d → the_bodies (drop i table) ≡ the_body b ∷ the_bodies (drop (suc i) table)
  bodies_cons i b d h e = ap the_bodies (drop-cons table i d h) ∙ ap (λ (x : BodyValue). the_body x ∷ the_bodies (drop (suc i) table)) (sym e)

  module _ (i offset : ℕ) (b d : BodyValue) (h : i < length table) (t : PlacedFrom file table first i offset) (e : b ≡ get_or table i d) where
    pub from_next : (next : ℕ) → Some next ≡ next_body file i offset (the_body b) → PlacedFrom file table first (i + 1) next
    from_next next f = t ∙ ap (bodies_placed file i offset) (bodies_cons i b d h e) ∙ rw add-one (placed_at file i offset next (the_body b) _ f)

    pub from_wrong : None ≡ next_body file i offset (the_body b) → bodies_placed file 0 first (the_bodies table) ≡ false
    from_wrong f = t ∙ ap (bodies_placed file i offset) (bodies_cons i b d h e) ∙ placed_wrong file i offset (the_body b) _ f

  pub from_last : (i offset : ℕ) → length table ≤ i → PlacedFrom file table first i offset → eqb offset (length file) ≡ bodies_placed file 0 first (the_bodies table)
  unfolding bodies_placed
  from_last i offset h t = sym (t ∙ ap (λ (l : List BodyValue). bodies_placed file i offset (the_bodies l)) (drop_of_length-le table h))

-- ---- the whole table

pub table_short : (table : List BodyValue) (file : List ℕ) → length file < 1 + 8 * length table → placed (the_bodies table) file ≡ false
table_short table file h = placed_short (the_bodies table) file (rw length-map h)

pub table_bodies : (table : List BodyValue) (file : List ℕ) → placed (the_bodies table) file ≡ bodies_placed file 0 (1 + 8 * length table) (the_bodies table)
unfolding placed
table_bodies table file = rw length-map
