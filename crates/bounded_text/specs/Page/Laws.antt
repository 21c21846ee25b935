-- One text after another; a text from the start of bytes that are all zero.
-- Assumes nothing.
use Prim.Native.Nat.{ℕ, suc, ◌+◌, ◌≤◌, ◌<◌}
use Rattle.std.specs.Prelude.{◌≡◌, refl, Option, Some, None, get_or, take, drop, set, replicate, ltb, leb}
use Rattle.std.proofs.Math.Path.{ap, sym}
use Rattle.std.proofs.Common.{◌∙◌, subst, add-zero, add-one, length-set, take-append-drop, take_all, take-suc, take_at}
use mathlib.Core.List.{List, [], ◌∷◌, ◌++◌, foldl-append}
use native.Mathlib.Omega.{arith}
use Rattle.std.proofs.Math.ListN.{length}
use Rattle.std.proofs.lemmas.List.Edits.{sets}
use borrow.Author.Tests.{lt-ltb, le-ltb, ltb-true, ltb-false, leb-true, leb-false}
use Rattle.words.specs.Laws.Tests.{by_test}
use Rattle.services.specs.Memory.{padded}
use Rattle.text.specs.Written.{Written}
use Rattle.text.specs.Laws.Printed.{printed}
use Rattle.bounded_text.specs.Page.{Page, page, put_at, put_byte, print, Prints}

-- ---- one byte

module _ (n : ℕ) (bytes : List ℕ) (b : ℕ) where
  put_there : n < length bytes → put_at (Some n) bytes b ≡ page (Some (suc n)) (set bytes n b)
  unfolding put_at
  put_there h = rw (put_at, lt-ltb n (length bytes) h)

  put_past : length bytes ≤ n → put_at (Some n) bytes b ≡ page None bytes
  unfolding put_at
  put_past h = rw (put_at, le-ltb n (length bytes) h)

  pub prints_byte : n < length bytes → Prints (page (Some n) bytes) (b ∷ []) (page (Some (n + 1)) (set bytes n b))
  unfolding print put_byte
  prints_byte h = record { is = ap (λ (k : ℕ). page (Some k) (set bytes n b)) (add-one n) ∙ sym (put_there h) }

  pub prints_past : length bytes ≤ n → Prints (page (Some n) bytes) (b ∷ []) (page None bytes)
  unfolding print put_byte
  prints_past h = record { is = sym (put_past h) }

-- ---- one text after another

pub prints_none : {g : Page} → Prints g [] g
unfolding print
prints_none = record { is = refl }

pub prints_then : {g h k : Page} {a b : List ℕ} → Prints g a h → Prints h b k → Prints g (a ++ b) k
unfolding print
prints_then {g} {h} {k} {a} {b} x y = record { is = y.is ∙ ap (λ (p : Page). print p b) x.is ∙ sym (foldl-append put_byte g a b) }

stays_past : (bytes a : List ℕ) → print (page None bytes) a ≡ page None bytes
unfolding print put_byte put_at
stays_past bytes [] = refl
stays_past bytes (b ∷ a) = stays_past bytes a

-- what follows a text that has passed the lent bytes changes nothing
pub prints_on : {g : Page} {bytes a : List ℕ} (b : List ℕ) → Prints g a (page None bytes) → Prints g (a ++ b) (page None bytes)
prints_on {g} {bytes} b x = prints_then x (record { is = sym (stays_past bytes b) })

-- where a text ends, as a test has told
pub prints_to : {g : Page} {a bytes : List ℕ} {r e : Option ℕ} → r ≡ e → Prints g a (page r bytes) → Prints g a (page e bytes)
prints_to {g} {a} {bytes} t = subst (λ (q : Option ℕ). Prints g a (page q bytes)) t

-- a text that has passed the lent bytes is answered where the rest of it is not tried
pub prints_stop : {g : Page} {a bytes : List ℕ} {r : Option ℕ} (b : List ℕ) → r ≡ None → Prints g a (page None bytes) → Prints g (a ++ b) (page r bytes)
prints_stop b e x = prints_to (sym e) (prints_on b x)

-- a text that is the same
pub prints_same : {g h : Page} {a b : List ℕ} → a ≡ b → Prints g a h → Prints g b h
prints_same {g} {h} t = subst (λ (w : List ℕ). Prints g w h) t

-- ---- digits

-- the digits that were written into bytes that are all zero
pub digits_taken : {n count : ℕ} {digits after : List ℕ} → Written (replicate n 0) 0 digits after count → count ≤ n → take count after ≡ digits
unfolding padded
digits_taken {n} {count} {digits} w h =
    let (is, (e, _)) = printed refl w h in
    ap (take count) is ∙ take_at digits _ count (sym e)

-- ---- what is kept

put_length : (end : Option ℕ) (bytes : List ℕ) (b : ℕ) → length (put_at end bytes b).bytes ≡ length bytes
unfolding put_at
put_length (Some n) bytes b = by_test (ltb n (length bytes)) (λ e. rw (put_at, e) (length-set bytes n b)) (λ e. rw (put_at, e) refl)
put_length None bytes b = refl

print_length : (g : Page) (text : List ℕ) → length (print g text).bytes ≡ length g.bytes
unfolding print put_byte
print_length g [] = refl
print_length g (b ∷ text) = print_length (put_at g.end g.bytes b) text ∙ put_length g.end g.bytes b

pub prints_length : {g h : Page} {a : List ℕ} → Prints g a h → length h.bytes ≡ length g.bytes
prints_length {g} {h} {a} x = ap (λ (p : Page). length p.bytes) x.is ∙ print_length g a

-- ---- the first bytes of a text

-- i bytes of the text are written, and end here
pub record PrintedTo (g : Page) (text : List ℕ) (i : ℕ) (h : Page) : Type 0 where
  pub within : i ≤ length text
  pub so_far : Prints g (take i text) h

pub printed_none : (g : Page) (text : List ℕ) → PrintedTo g text 0 g
printed_none g text = record { within = omega arith; so_far = prints_none }

module _ {g h : Page} {text : List ℕ} {i : ℕ} (x : PrintedTo g text i h) where
  pub printed_more : {k : Page} → i < length text → Prints h (get_or text i 0 ∷ []) k → PrintedTo g text (i + 1) k
  printed_more more y =
      let e : take (i + 1) text ≡ take i text ++ (get_or text i 0 ∷ []) = ap (λ (n : ℕ). take n text) (add-one i) ∙ take-suc text i 0 more in
      record { within = omega arith; so_far = prints_same (sym e) (prints_then x.so_far y) }

  -- the next byte has no place, and so neither has the text
  pub printed_past : {bytes : List ℕ} → i < length text → Prints h (get_or text i 0 ∷ []) (page None bytes) → Prints g text (page None bytes)
  printed_past {bytes} more y =
      let e : take i text ++ (get_or text i 0 ∷ []) ++ drop (suc i) text ≡ text =
      ap (λ (l : List ℕ). l ++ drop (suc i) text) (sym (take-suc text i 0 more)) ∙ take-append-drop (suc i) text in
      prints_same e (prints_on (drop (suc i) text) (prints_then x.so_far y))

  pub printed_all : length text ≤ i → Prints g text h
  printed_all l = prints_same (take_all i text l) x.so_far

-- ---- a text that fits, and one that does not

print_sets : (k : ℕ) (bytes text : List ℕ) → k + length text ≤ length bytes
    → print (page (Some k) bytes) text ≡ page (Some (k + length text)) (sets bytes k text)
unfolding print put_byte
print_sets k bytes [] h = ap (λ (n : ℕ). page (Some n) bytes) (sym (add-zero k))
print_sets k bytes (b ∷ text) h =
    let l : k < length bytes = omega arith in
    let z : suc k + length text ≡ k + suc (length text) = omega arith in
    let r : suc k + length text ≤ length (set bytes k b) = omega (arith, length-set bytes k b) in
    ap (λ (g : Page). print g text) (put_there k bytes b l)
    ∙ print_sets (suc k) (set bytes k b) text r
    ∙ ap (λ (n : ℕ). page (Some n) (sets (set bytes k b) (suc k) text)) z

print_longer : (k : ℕ) (bytes text : List ℕ) → k ≤ length bytes → length bytes < k + length text → (print (page (Some k) bytes) text).end ≡ None
unfolding print put_byte
print_longer k bytes [] l h = absurd (omega arith)
print_longer k bytes (b ∷ text) l h = by_test (ltb k (length bytes))
    (λ e.
    let m : k < length bytes = ltb-true _ _ e in
    ap (λ (g : Page). (print g text).end) (put_there k bytes b m)
    ∙ print_longer (suc k) (set bytes k b) text (omega (arith, length-set bytes k b)) (omega (arith, length-set bytes k b)))
    (λ e. ap (λ (g : Page). (print g text).end) (put_past k bytes b (ltb-false _ _ e)) ∙ ap (λ (g : Page). g.end) (stays_past bytes text))

-- 0 for a text that has passed the bytes, so that the two cases can be told
unfoldable place_of : Option ℕ → ℕ
place_of (Some n) = suc n
place_of None = 0

module _ {bytes text after : List ℕ} where
  -- a text that ends at a place fits
  pub fits : {n : ℕ} → Prints (page (Some 0) bytes) text (page (Some n) after) → (length text ≤ length bytes) × (n ≡ length text) × (after ≡ sets bytes 0 text)
  unfolding place_of
  fits {n} x = by_test (leb (length text) (length bytes))
      (λ t.
      let l : length text ≤ length bytes = leb-true _ _ t in
      let e = x.is ∙ print_sets 0 bytes text (omega arith) in
      let p : suc n ≡ suc (0 + length text) = ap (λ (g : Page). place_of g.end) e in
      (l, omega arith, ap (λ (g : Page). g.bytes) e))
      (λ t.
      let l : length bytes < length text = leb-false _ _ t in
      let p : suc n ≡ 0 = ap (λ (g : Page). place_of g.end) x.is ∙ ap place_of (print_longer 0 bytes text (omega arith) (omega arith)) in
      absurd (omega arith))

  -- a text that has passed the bytes is longer
  pub longer : Prints (page (Some 0) bytes) text (page None after) → length bytes < length text
  unfolding place_of
  longer x = by_test (leb (length text) (length bytes))
      (λ t.
      let l : length text ≤ length bytes = leb-true _ _ t in
      let p : 0 ≡ suc (0 + length text) = ap (λ (g : Page). place_of g.end) (x.is ∙ print_sets 0 bytes text (omega arith)) in
      absurd (omega arith))
      (λ t. leb-false _ _ t)
