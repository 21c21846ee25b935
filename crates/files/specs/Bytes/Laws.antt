-- What holds of refusals, of the places of bodies and records in a file, and of numbers in bytes.
-- Assumes nothing.
use Rattle.std.specs.Prelude.{ℕ, zero, suc, ◌+◌, ◌*◌, ◌<◌, ◌≤◌, Bool, false, ◌&&◌, ◌≡◌, length, get_or, take, drop, eqb, leb}
use Rattle.std.proofs.Math.Bool.{true, not, false≢true}
use Rattle.std.proofs.Math.Path.{refl, sym}
use Rattle.std.proofs.Common.{ap, ◌∙◌, add_comm, zero-mul, suc-mul, not-suc-le-zero, le_of_suc-le-suc, arith, drop-drop}
use mathlib.Core.List.{List, [], ◌∷◌, ◌++◌, Memᴰ}
use borrow.Author.Tests.{eqb-true, eq-eqb, leb-true, not-true}
use Rattle.words.specs.Lists.{every}
use Rattle.words.specs.Lists.Laws.{every_cons}
use Rattle.words.specs.Laws.Tests.{by_test, and_left, and_right}
use Rattle.files.specs.Bytes.{records, Body, kind_of, count_of, offset_of, line_right, bodies_placed, placed, records_of, Test, first_hit, tests_on}

-- ---- refusals

-- the number of a refusal is never 0
unfoldable pub numbered : {X : Type 0} → List (Test X) → Bool
numbered ts = every (λ t. not (eqb t.refusal 0)) ts

module _ {X : Type 0} where
  pub first_hit_fails : (t : Test X) (ts : List (Test X)) (x : X) → t.fails x ≡ true → first_hit (t ∷ ts) x ≡ t.refusal
  unfolding first_hit
  first_hit_fails t ts x e = rw (first_hit, e)

  pub first_hit_passes : (t : Test X) (ts : List (Test X)) (x : X) → t.fails x ≡ false → first_hit (t ∷ ts) x ≡ first_hit ts x
  unfolding first_hit
  first_hit_passes t ts x e = rw (first_hit, e)

  pub numbered_cons : (t : Test X) (ts : List (Test X)) → numbered (t ∷ ts) ≡ true → (t.refusal ≡ 0 → ⊥) × (numbered ts ≡ true)
  unfolding numbered
  numbered_cons t ts h =
      let e : not (eqb t.refusal 0) && every (λ (u : Test X). not (eqb u.refusal 0)) ts ≡ true = sym (every_cons (λ (u : Test X). not (eqb u.refusal 0)) t ts) ∙ h in
      let z = not-true (eqb t.refusal 0) (and_left (not (eqb t.refusal 0)) _ e) in
      (λ q. false≢true (sym z ∙ eq-eqb t.refusal 0 q), and_right (not (eqb t.refusal 0)) _ e)

  -- without a refusal every test passes
  pub unrefused : {t : Test X} {ts : List (Test X)} (x : X) → numbered ts ≡ true → first_hit ts x ≡ 0 → Memᴰ t ts → t.fails x ≡ false
  unrefused x n h (Memᴰ.head {x = u} {xs = us} e) =
      ap (λ (z : Test X). z.fails x) e ∙ by_test (u.fails x) (λ f. absurd ((numbered_cons u us n).0 (sym (first_hit_fails u us x f) ∙ h))) (λ f. f)
  unrefused x n h (Memᴰ.tail {x = u} {xs = us} i) = by_test (u.fails x)
      (λ f. absurd ((numbered_cons u us n).0 (sym (first_hit_fails u us x f) ∙ h)))
      (λ f. unrefused x (numbered_cons u us n).1 (sym (first_hit_passes u us x f) ∙ h) i)

  -- the tests that follow count where those before refuse nothing
  pub first_hit_past : (ts us : List (Test X)) (x : X) → numbered ts ≡ true → first_hit ts x ≡ 0 → first_hit (ts ++ us) x ≡ first_hit us x
  first_hit_past [] us x n h = refl
  first_hit_past (t ∷ ts) us x n h =
      let f = unrefused x n h (Memᴰ.head refl) in
      first_hit_passes t (ts ++ us) x f ∙ first_hit_past ts us x (numbered_cons t ts n).1 (sym (first_hit_passes t ts x f) ∙ h)

  pub first_hit_stays : (ts us : List (Test X)) (x : X) → (first_hit ts x ≡ 0 → ⊥) → first_hit (ts ++ us) x ≡ first_hit ts x
  unfolding first_hit
  first_hit_stays [] us x h = absurd (h refl)
  first_hit_stays (t ∷ ts) us x h = by_test (t.fails x)
      (λ f. first_hit_fails t (ts ++ us) x f ∙ sym (first_hit_fails t ts x f))
      (λ f. first_hit_passes t (ts ++ us) x f ∙ first_hit_stays ts us x (λ q. h (first_hit_passes t ts x f ∙ q)) ∙ sym (first_hit_passes t ts x f))

module _ {X Y : Type 0} (part : Y → X) where
  pub first_hit_tests_on : (ts : List (Test X)) (y : Y) → first_hit (tests_on part ts) y ≡ first_hit ts (part y)
  unfolding first_hit tests_on
  first_hit_tests_on [] y = refl
  first_hit_tests_on (t ∷ ts) y = by_test (t.fails (part y)) (λ e. rw (first_hit, e)) (λ e. rw (first_hit, e) (first_hit_tests_on ts y))

  pub numbered_tests_on : (ts : List (Test X)) → numbered (tests_on part ts) ≡ numbered ts
  unfolding numbered tests_on every
  numbered_tests_on [] = refl
  numbered_tests_on (t ∷ ts) = by_test (not (eqb t.refusal 0)) (λ e. rw (every, e) (numbered_tests_on ts)) (λ e. rw (every, e))

-- ---- the places of bodies

-- of line n of a table of contents
pub record LineFacts (file : List ℕ) (n offset : ℕ) (b : Body) : Type 0 where
  pub kind_is : kind_of file n ≡ b.kind
  pub count_least : b.least ≤ count_of file n
  pub count_most : count_of file n ≤ b.most
  pub offset_is : offset_of file n ≡ offset

pub line_facts : (file : List ℕ) (n offset : ℕ) (b : Body) → line_right file n offset b ≡ true → LineFacts file n offset b
unfolding line_right
line_facts file n offset b h =
    let k : Bool = eqb (kind_of file n) b.kind in
    let l : Bool = leb b.least (count_of file n) in
    let m : Bool = leb (count_of file n) b.most in
    let h₁ = and_left (k && l && m) _ h in
    let h₂ = and_left (k && l) _ h₁ in
    record {
      kind_is = eqb-true (kind_of file n) b.kind (and_left k _ h₂);
      count_least = leb-true b.least (count_of file n) (and_right k _ h₂);
      count_most = leb-true (count_of file n) b.most (and_right (k && l) _ h₁);
      offset_is = eqb-true (offset_of file n) offset (and_right (k && l && m) _ h);
    }

pub bodies_first : (file : List ℕ) (n offset : ℕ) (b : Body) (bs : List Body) → bodies_placed file n offset (b ∷ bs) ≡ true
    → LineFacts file n offset b × (bodies_placed file (suc n) (offset + count_of file n * b.size) bs ≡ true)
unfolding bodies_placed
bodies_first file n offset b bs h = by_test (line_right file n offset b)
    (λ e. (line_facts file n offset b e, rw (bodies_placed, e) at h))
    (λ e. absurd (false≢true (rw (bodies_placed, e) at h)))

pub bodies_end : (file : List ℕ) (n offset : ℕ) → bodies_placed file n offset [] ≡ true → offset ≡ length file
unfolding bodies_placed
bodies_end file n offset h = eqb-true offset (length file) h

-- Bodies end no earlier than they begin.
pub placed_within : (file : List ℕ) (n offset : ℕ) (bs : List Body) → bodies_placed file n offset bs ≡ true → offset ≤ length file
placed_within file n offset [] e = let z : offset ≡ length file = bodies_end file n offset e in omega arith
placed_within file n offset (b ∷ bs) e =
    let z : offset + count_of file n * b.size ≤ length file =
    placed_within file (suc n) _ bs (bodies_first file n offset b bs e).1 in
    omega arith

pub placed_bodies : (bodies : List Body) (file : List ℕ) → placed bodies file ≡ true → bodies_placed file 0 (1 + 8 * length bodies) bodies ≡ true
unfolding placed
placed_bodies bodies file h = h

-- ---- records

pub length_records : (n size : ℕ) (bytes : List ℕ) → length (records n size bytes) ≡ n
unfolding records
length_records zero size bytes = refl
length_records (suc n) size bytes = ap suc (length_records n size (drop size bytes))

pub length_records_of : (file : List ℕ) (n size : ℕ) → length (records_of file n size) ≡ count_of file n
unfolding records_of
length_records_of file n size = length_records (count_of file n) size (drop (offset_of file n) file)

-- record i is the part of so many bytes from i * size on
pub records_at : (n size : ℕ) (bytes : List ℕ) (i : ℕ) → i < n → get_or (records n size bytes) i [] ≡ take size (drop (i * size) bytes)
unfolding records
records_at zero size bytes i h = absurd (not-suc-le-zero h)
records_at (suc n) size bytes zero h = ap (λ (k : ℕ). take size (drop k bytes)) (sym (zero-mul size))
records_at (suc n) size bytes (suc i) h =
    records_at n size (drop size bytes) i (le_of_suc-le-suc h)
    ∙ ap (take size) (drop-drop (i * size) size bytes ∙ ap (λ (k : ℕ). drop k bytes) (add_comm size (i * size) ∙ sym (suc-mul i size)))
