-- Text in lent bytes, one byte after another, as far as they reach.
-- Assumes nothing.
pub mod Laws
use Rattle.std.specs.Prelude.{ℕ, suc, Option, Some, None, true, false, ◌≡◌, length, set, ltb}
use mathlib.Core.List.{List, foldl}

-- the lent bytes, and where the text in them ends
pub record Page : Type 0 where
  pub end : Option ℕ
  pub bytes : List ℕ

abbrev pub page : Option ℕ → List ℕ → Page
page end bytes = record { end = end; bytes = bytes }

-- a byte more, behind a text that ends so: where there is no byte for it, the text has passed the lent bytes
unfoldable pub put_at : Option ℕ → List ℕ → ℕ → Page
put_at (Some n) bytes b = elim (ltb n (length bytes)) [ true ↦ page (Some (suc n)) (set bytes n b) | false ↦ page None bytes ]
put_at None bytes b = page None bytes

unfoldable pub put_byte : Page → ℕ → Page
put_byte g b = put_at g.end g.bytes b

-- a text more
unfoldable pub print : Page → List ℕ → Page
print g text = foldl put_byte g text

-- the text written from the one page on gives the other
pub record Prints (before : Page) (text : List ℕ) (after : Page) : Type 0 where
  pub is : after ≡ print before text
