-- Records that are written stand in their rows, and all behind them is as it was.
-- Assumes nothing.
use Prim.Native.Nat.{ℕ, suc, ◌+◌, ◌*◌, ◌≤◌}
use Rattle.std.specs.Prelude.{◌≡◌, drop}
use Rattle.std.proofs.Math.Path.{refl, ap, sym}
use Rattle.std.proofs.Common.{ap₂, ◌∙◌, add-zero, add-suc, suc-add, suc-mul, add-one}
use mathlib.Core.List.{List, [], ◌∷◌, ◌++◌, append_assoc, append-nil}
use Rattle.std.proofs.Math.ListN.{length}
use Rattle.std.proofs.Math.Nat.{zero-add, mul-le-mul_right}
use native.Mathlib.Omega.{arith}
use Rattle.words.specs.Lists.{each}
use Rattle.tables.specs.Rows.{Layout, Exact, first_of, rows_in, put_row}
use Rattle.tables.specs.Rows.Laws.{length_put_row, drop_put_row, put_more, rows_in_whole}
use Rattle.case_tables.specs.WrittenRows.{written}

module _ {A : Type 0} (L : Layout A) where
  pub written_append : (t : List ℕ) (k : ℕ) (l m : List A) → written L t k (l ++ m) ≡ written L (written L t k l) (k + length l) m
  unfolding written
  written_append t k [] m = ap (λ (j : ℕ). written L t j m) (sym (add-zero k))
  written_append t k (a ∷ l) m =
      written_append (put_row L t k a) (suc k) l m
      ∙ ap (λ (j : ℕ). written L (written L (put_row L t k a) (suc k) l) j m) (suc-add k (length l) ∙ sym (add-suc k (length l)))

  -- one record more
  pub written_more : (t : List ℕ) (l : List A) (a : A) → written L t 0 (l ++ (a ∷ [])) ≡ put_row L (written L t 0 l) (length l) a
  unfolding written
  written_more t l a = written_append t 0 l (a ∷ []) ∙ ap (λ (j : ℕ). put_row L (written L t 0 l) j a) (zero-add (length l))

  pub length_written : (t : List ℕ) (k : ℕ) (l : List A) → length (written L t k l) ≡ length t
  unfolding written
  length_written t k [] = refl
  length_written t k (a ∷ l) = length_written (put_row L t k a) (suc k) l ∙ length_put_row L t k a

  pub drop_written : (t : List ℕ) (k : ℕ) (l : List A) (n : ℕ) → k + length l ≤ n → drop (n * L.width) (written L t k l) ≡ drop (n * L.width) t
  unfolding written
  drop_written t k [] n h = refl
  drop_written t k (a ∷ l) n h = drop_written (put_row L t k a) (suc k) l n (omega arith) ∙ drop_put_row L t k n a (omega arith)

  rows_from : (t : List ℕ) (k : ℕ) (l : List A) → (k + length l) * L.width ≤ length t → rows_in L (k + length l) (written L t k l) ≡ rows_in L k t ++ l
  unfolding written
  rows_from t k [] h = ap (λ (j : ℕ). rows_in L j t) (add-zero k) ∙ sym (append-nil (rows_in L k t))
  rows_from t k (a ∷ l) h =
      let e : suc k + length l ≡ k + suc (length l) = omega arith in
      let w : (suc k + length l) * L.width ≡ (k + suc (length l)) * L.width = ap (λ (j : ℕ). j * L.width) e in
      let fits : (suc k + length l) * L.width ≤ length (put_row L t k a) = rw length_put_row (omega arith) in
      let first : suc k * L.width ≤ (suc k + length l) * L.width = mul-le-mul_right L.width (omega arith) in
      let row : k * L.width + L.width ≡ suc k * L.width = sym (suc-mul k L.width) in
      ap (λ (j : ℕ). rows_in L j (written L (put_row L t k a) (suc k) l)) (sym e)
      ∙ rows_from (put_row L t k a) (suc k) l fits
      ∙ ap (λ (x : List A). x ++ l) (ap (λ (j : ℕ). rows_in L j (put_row L t k a)) (sym (add-one k)) ∙ put_more L k t a (omega arith))
      ∙ append_assoc (rows_in L k t) (a ∷ []) l

  -- the records stand in the first rows
  pub rows_written : (t : List ℕ) (l : List A) → length l * L.width ≤ length t → rows_in L (length l) (written L t 0 l) ≡ l
  unfolding rows_in first_of
  rows_written t l h = rw zero-add at (rows_from t 0 l (rw zero-add h))

  -- A table with these records in its first rows, and as it was behind them, is the one that was written.
  pub written_whole : Exact L → (t t' : List ℕ) (l : List A) → length l * L.width ≤ length t → length t' ≡ length t → rows_in L (length l) t' ≡ l
      → drop (length l * L.width) t' ≡ drop (length l * L.width) t → t' ≡ written L t 0 l
  written_whole x t t' l h e r d =
      let n : ℕ = length l in
      rows_in_whole L x n t' (omega arith)
      ∙ ap₂ (λ (xs : List A) (ws : List ℕ). each xs L.words ++ ws)
      (r ∙ sym (rows_written t l h))
      (d ∙ sym (drop_written t 0 l n (omega arith)))
      ∙ sym (rows_in_whole L x n (written L t 0 l) (rw length_written h))
