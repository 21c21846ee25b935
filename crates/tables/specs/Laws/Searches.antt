-- The search for an entry.
-- Assumes nothing.
use Prim.Native.Nat.{ℕ, zero, suc, ◌≤◌, ◌<◌}
use Rattle.std.specs.Prelude.{true, false, ◌≡◌, length, get_or}
use Rattle.std.proofs.Math.Path.{refl}
use Rattle.std.proofs.Common.{ap, sym, ◌∙◌, arith}
use mathlib.Core.List.{List, [], ◌∷◌}
use Rattle.automata.specs.Automaton.{Entry}
use Rattle.automata.specs.Saturation.{is_entry, entry_number}
use Rattle.tables.specs.Rows.{row_at, rows_in}
use Rattle.tables.specs.Rows.Laws.{length_rows_in, get_or_rows_in}
use Rattle.tables.specs.Layouts.{entry_row}

module _ (p S : ℕ) where
  entry_number_found : (l : List Entry) (i : ℕ) (d : Entry) → i < length l → ((j : ℕ) → j < i → is_entry p S (get_or l j d) ≡ false)
      → is_entry p S (get_or l i d) ≡ true → entry_number p S l ≡ i
  unfolding entry_number
  entry_number_found [] i d h b e = absurd (omega arith)
  entry_number_found (y ∷ ys) zero d h b e = rw (entry_number, e)
  entry_number_found (y ∷ ys) (suc i) d h b e =
      rw (entry_number, b 0 (omega arith)) (ap suc (entry_number_found ys i d (omega arith) (λ j l. b (suc j) (omega arith)) e))

  entry_number_none : (l : List Entry) (d : Entry) → ((j : ℕ) → j < length l → is_entry p S (get_or l j d) ≡ false) → entry_number p S l ≡ length l
  unfolding entry_number
  entry_number_none [] d b = refl
  entry_number_none (y ∷ ys) d b = rw (entry_number, b 0 (omega arith)) (ap suc (entry_number_none ys d (λ j l. b (suc j) (omega arith))))

  module _ (t : List ℕ) (n : ℕ) where
    no_entry_at : Entry
    no_entry_at = record { control = 0; S = 0 }

    pub number_found : (i : ℕ) → i < n → ((j : ℕ) → j < i → is_entry p S (row_at entry_row t j) ≡ false) → is_entry p S (row_at entry_row t i) ≡ true
        → i ≡ entry_number p S (rows_in entry_row n t)
    number_found i h b e =
        let len : length (rows_in entry_row n t) ≡ n = length_rows_in entry_row n t in
        sym
        (entry_number_found (rows_in entry_row n t) i no_entry_at (omega arith)
        (λ j l. ap (is_entry p S) (get_or_rows_in entry_row n t j no_entry_at (omega arith)) ∙ b j l)
        (ap (is_entry p S) (get_or_rows_in entry_row n t i no_entry_at h) ∙ e))

    pub number_none : (i : ℕ) → n ≤ i → ((j : ℕ) → j < i → is_entry p S (row_at entry_row t j) ≡ false) → n ≡ entry_number p S (rows_in entry_row n t)
    number_none i h b =
        let len : length (rows_in entry_row n t) ≡ n = length_rows_in entry_row n t in
        sym
        (entry_number_none (rows_in entry_row n t) no_entry_at
        (λ j l. ap (is_entry p S) (get_or_rows_in entry_row n t j no_entry_at (omega arith)) ∙ b j (omega arith))
        ∙ len)
