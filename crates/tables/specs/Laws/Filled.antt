-- Tables with zeros behind their last row: what the services leave in lent memory.
-- Assumes nothing.
use Rattle.std.specs.Prelude.{ℕ, ◌+◌, ◌-◌, ◌*◌, ◌≤◌, ◌≡◌, drop}
use Rattle.std.proofs.Math.Path.{ap}
use Rattle.std.proofs.Common.{ap₂, sym, ◌∙◌, suc-mul, add-one, arith, drop-drop}
use mathlib.Core.List.{List, ◌++◌}
use Rattle.std.proofs.Math.ListN.{length}
use Rattle.std.proofs.lemmas.List.{length-replicate}
use Rattle.words.specs.Lists.{each, zeros}
use Rattle.words.specs.Lists.Laws.{drop_zeros}
use Rattle.services.specs.Memory.{padded}
use Rattle.tables.specs.Rows.{Layout, Exact, rows_in, put_row}
use Rattle.tables.specs.Rows.Laws.{length_rows_in, length_put_row, drop_put_row, rows_in_whole, length_each_words}

module _ {A : Type 0} (L : Layout A) where
  -- behind the first n rows all words are zero
  pub record Filled (n : ℕ) (t : List ℕ) : Type 0 where
    pub behind : drop (n * L.width) t ≡ zeros (length t - n * L.width)

  pub filled_zeros : (n : ℕ) → Filled 0 (zeros n)
  filled_zeros n = record { behind = drop_zeros (0 * L.width) n ∙ ap (λ (k : ℕ). zeros (k - 0 * L.width)) (sym (length-replicate n 0)) }

  -- a row more
  pub filled_put : (n : ℕ) (t : List ℕ) (a : A) → Filled n t → Filled (n + 1) (put_row L t n a)
  filled_put n t a h =
      let w : (n + 1) * L.width ≡ n * L.width + L.width = ap (λ (k : ℕ). k * L.width) (add-one n) ∙ suc-mul n L.width in
      let m : length t - n * L.width - L.width ≡ length t - (n * L.width + L.width) = omega arith in
      record {
        behind =
            drop_put_row L t n (n + 1) a (omega arith)
            ∙ ap (λ (k : ℕ). drop k t) w
            ∙ sym (drop-drop L.width (n * L.width) t)
            ∙ ap (drop L.width) h.behind
            ∙ drop_zeros L.width (length t - n * L.width)
            ∙ ap zeros m
            ∙ ap₂ (λ (x y : ℕ). zeros (x - y)) (sym (length_put_row L t n a)) (sym w);
      }

  -- the whole table, by its rows
  pub filled_whole : Exact L → (n : ℕ) (t : List ℕ) → n * L.width ≤ length t → Filled n t → t ≡ padded (length t) (each (rows_in L n t) L.words)
  unfolding padded
  filled_whole x n t h f =
      let e : length (each (rows_in L n t) L.words) ≡ n * L.width =
      length_each_words L (rows_in L n t) ∙ ap (λ (k : ℕ). k * L.width) (length_rows_in L n t) in
      rows_in_whole L x n t h
      ∙ ap (λ (ws : List ℕ). each (rows_in L n t) L.words ++ ws) (f.behind ∙ ap (λ (k : ℕ). zeros (length t - k)) (sym e))
