-- The cells, one by one, and the refusal of a start file for its case.
-- Assumes nothing.
use Rattle.std.specs.Prelude.{ℕ, zero, suc, ◌+◌, ◌*◌, drop, Bool, true, false, not, ◌&&◌, ◌≡◌, refl, List, ◌∷◌, map}
use Rattle.std.proofs.Common.{ap, ap₂, sym, ◌∙◌, add-one, drop-drop, arith}
use Rattle.std.specs.List.{list_all, range_with_len}
use Rattle.words.specs.Lists.{every}
use Rattle.words.specs.Laws.Tests.{by_test}
use Rattle.files.specs.Bytes.{first_hit, records}
use Rattle.files.specs.Case.{Head, head}
use Rattle.files.specs.Start.{start_placed, CellBytes, cell_bytes, starts_of, cell_records, start_right, cell_right, cells_right, start_file_right, start_tests, start_refusal}
use Rattle.bytes_in.specs.Records.{record_at}
use Rattle.start_records.specs.Cells.Laws.{right_all}
use Rattle.start_file.specs.Checks.{files_of, refusal_by, refusal_for}

-- ---- the cells, by their numbers

cells_cons : (A : ℕ) (cells : List CellBytes) (n : ℕ) (x : CellBytes) (xs : List CellBytes)
    → cells_right A cells n (x ∷ xs) ≡ cell_right A cells n x && cells_right A cells (suc n) xs
unfolding cells_right
cells_cons A cells n x xs = by_test (cell_right A cells n x) (λ t. rw (cells_right, t)) (λ t. rw (cells_right, t))

module _ (A : ℕ) (b : List ℕ) where
  -- cell number i keeps its bounds, by the cells below it
  abbrev pub right_at : ℕ → Bool
  right_at i = cell_right A (map cell_bytes (records i 6 b)) i (cell_bytes (record_at 6 i b))

  cells_from : (n i k : ℕ) → i + k ≡ n
      → list_all right_at (range_with_len i k) ≡ cells_right A (map cell_bytes (records n 6 b)) i (map cell_bytes (records k 6 (drop (i * 6) b)))
  unfolding cells_right records record_at
  cells_from n i zero e = refl
  cells_from n i (suc k) e =
      let d : i * 6 + 6 ≡ suc i * 6 = omega arith in
      ap₂ ◌&&◌
      (right_all A b i n (cell_bytes (record_at 6 i b)) (omega arith))
      (rw (add-one i, drop-drop, d) (cells_from n (suc i) k (omega arith)))
      ∙ sym (cells_cons A (map cell_bytes (records n 6 b)) i _ _)

  pub cells_are : (n : ℕ) → list_all right_at (range_with_len 0 n) ≡ cells_right A (map cell_bytes (records n 6 b)) 0 (map cell_bytes (records n 6 b))
  cells_are n = cells_from n 0 n (omega arith)

-- ---- the refusal

-- test by test, as the code comes to it
module _ (P A : ℕ) (start : List ℕ) where
  pub by_place : start_placed start ≡ false → 5 ≡ refusal_for P A start
  unfolding refusal_for refusal_by
  by_place p = rw (refusal_for, p)

  module _ (in_place : start_placed start ≡ true) where
    pub by_starts : every (start_right P (cell_records start)) (starts_of start) ≡ false → 6 ≡ refusal_for P A start
    unfolding refusal_for refusal_by
    by_starts s = rw (refusal_for, in_place, s)

    module _ (starts : every (start_right P (cell_records start)) (starts_of start) ≡ true) where
      pub by_cells : cells_right A (cell_records start) 0 (cell_records start) ≡ false → 6 ≡ refusal_for P A start
      unfolding refusal_for refusal_by
      by_cells c = rw (refusal_for, in_place, starts, c)

      pub by_none_lem : cells_right A (cell_records start) 0 (cell_records start) ≡ true → 0 ≡ refusal_for P A start
      unfolding refusal_for refusal_by
      by_none_lem c = rw (refusal_for, in_place, starts, c)

-- for a case whose head is h
pub refusal_is : (case start : List ℕ) {h : Head} → h ≡ head case → refusal_for h.P h.A start ≡ start_refusal (files_of case start)
unfolding start_refusal start_tests first_hit start_file_right refusal_for refusal_by
refusal_is case start {h} e =
    ap (λ (x : Head). refusal_for x.P x.A start) e
    ∙ go (start_placed start) (every (start_right (head case).P (cell_records start)) (starts_of start))
    (cells_right (head case).A (cell_records start) 0 (cell_records start))
  where
    go : (p s c : Bool) → refusal_by p s c ≡ elim (not p) [ true ↦ 5 | false ↦ elim (not (s && c)) [ true ↦ 6 | false ↦ 0 ] ]
    go false s c = refl
    go true false c = refl
    go true true false = refl
    go true true true = refl
