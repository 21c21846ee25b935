-- Slices of words as tables: rows of one width, each of which stands for a record.
-- Assumes nothing.
pub mod Laws
use Rattle.std.specs.Prelude.{ℕ, zero, suc, ◌+◌, ◌*◌, ◌<◌, ◌≡◌, List, [], ◌∷◌, ◌++◌, length, get_or}
use Rattle.std.proofs.lemmas.List.Edits.{sets}

-- f 0, f 1 and so on, n of them
unfoldable pub first_of : {A : Type 0} → ℕ → (ℕ → A) → List A
first_of zero f = []
first_of (suc n) f = first_of n f ++ (f n ∷ [])

-- How a record stands in a row of words: the words of a record, and the record whose word number j is f j.
pub record Layout (A : Type 0) : Type 0 where
  pub width : ℕ
  pub words : A → List ℕ
  pub read : (ℕ → ℕ) → A
  pub some_words : 0 < width
  pub length_words : (a : A) → length (words a) ≡ width
  pub read_words : (a : A) → read (λ j. get_or (words a) j 0) ≡ a
  pub read_same : (f g : ℕ → ℕ) → ((j : ℕ) → j < width → f j ≡ g j) → read f ≡ read g

-- The record tells every word of its row.
pub record Exact {A : Type 0} (L : Layout A) : Type 0 where
  pub words_read : (f : ℕ → ℕ) → L.words (L.read f) ≡ first_of L.width f

module _ {A : Type 0} (L : Layout A) where
  -- the record in row i
  unfoldable pub row_at : List ℕ → ℕ → A
  row_at t i = L.read (λ j. get_or t (i * L.width + j) 0)

  -- the records in the first n rows
  unfoldable pub rows_in : ℕ → List ℕ → List A
  rows_in n t = first_of n (row_at t)

  -- the table with this record in row i
  abbrev pub put_row : List ℕ → ℕ → A → List ℕ
  put_row t i a = sets t (i * L.width) (L.words a)
