-- Numbers written one after another: a space before each, and a space between.
-- Assumes nothing.
use Rattle.std.specs.Prelude.{ℕ, ◌+◌, ◌*◌, ◌≤◌, ◌<◌, ◌≡◌, refl, List, ◌∷◌, ◌++◌, length, get_or, take}
use Rattle.std.proofs.Common.{ap, sym, ◌∙◌, add-zero, add-one, arith, take_all}
use Rattle.words.specs.Lists.{each}
use Rattle.words.specs.Lists.Laws.{each_take, length_zero}
use Rattle.services.specs.Listing.{ascii, decimal}
use Rattle.services.specs.Listing.Decimal.{decimal_length}
use Rattle.text.specs.Written.{Written}
use Rattle.text.specs.Written.Laws.{written_then, written_same, written_length}
use Rattle.services.specs.Run.{spaced_numbers, numbers_text}
use Rattle.number_text.specs.Numbers.{Spaced}

-- a word of 16 bits has at most five digits
pub five_digits : {n : ℕ} {before after : List ℕ} {at end : ℕ} → Written before at (decimal n) after end → n < 65536 → end ≤ at + 5
five_digits {n} w small =
    let d = decimal_length 5 n (omega arith) (omega arith) in
    let p = w.place in
    omega arith

-- ---- a space before each

pub spaced_none : (ns l : List ℕ) (at : ℕ) → Spaced l at ns 0 l at
unfolding spaced_numbers each
spaced_none ns l at =
    record { within = omega arith; written = record { place = sym (add-zero at); is = refl }; short = omega arith; long = refl }

pub spaced_next : {before l m after ns : List ℕ} {at i n end place next : ℕ} → Spaced before at ns i l end → i < length ns → n ≡ get_or ns i 0
    → n < 65536 → Written l end (ascii " ") m place → Written m place (decimal n) after next → Spaced before at ns (i + 1) after next
unfolding spaced_numbers ascii
spaced_next {ns = ns} {i = i} {n = n} h more is small space w =
    let digits = five_digits w small in
    let p = space.place in
    let s = h.short in
    record {
      within = omega arith;
      written = written_same
          (ap (λ (k : ℕ). spaced_numbers (take i ns) ++ (ascii " " ++ decimal k)) is
          ∙ sym (each_take ns i 0 (λ k. ascii " " ++ decimal k) more)
          ∙ ap (λ (k : ℕ). spaced_numbers (take k ns)) (sym (add-one i)))
          (written_then h.written (written_then space w));
      short = omega arith;
      long = written_length w ∙ written_length space ∙ h.long;
    }

pub spaced_all : {before ns after : List ℕ} {at i end : ℕ} → Spaced before at ns i after end → length ns ≤ i
    → Written before at (spaced_numbers ns) after end × (end ≤ at + 6 * length ns)
spaced_all {ns = ns} {i = i} h all =
    let w = h.within in
    let s = h.short in
    (written_same (ap spaced_numbers (take_all i ns all)) h.written, omega arith)

-- ---- a space between

pub no_numbers_lem : (ns l : List ℕ) (at : ℕ) → length ns ≡ 0 → Written l at (numbers_text ns) l at × (at ≤ at + 6 * length ns)
unfolding numbers_text
no_numbers_lem ns l at e =
    (written_same (ap numbers_text (sym (length_zero ns e))) (record { place = sym (add-zero at); is = refl }), omega arith)

-- the first number, and the others with a space before each
pub some_numbers : {ns others : List ℕ} {m n : ℕ} → ns ≡ m ∷ others → n ≡ m → decimal n ++ spaced_numbers others ≡ numbers_text ns
unfolding numbers_text
some_numbers {others = others} e is = ap (λ (k : ℕ). decimal k ++ spaced_numbers others) is ∙ ap numbers_text (sym e)
