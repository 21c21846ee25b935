-- The words of a cell by value.
-- Assumes nothing.
use Rattle.std.specs.Prelude.{ℕ, ◌<◌, ◌≡◌, List}
use Rattle.std.proofs.Common.{sym}
use Rattle.std.proofs.Math.Path.{refl, subst}
use Rattle.walks.specs.Cell as Walk
use Rattle.automata.specs.Automaton.{edges}
use Rattle.automata.specs.Saturation.{Saturated}
use Rattle.rounds.specs.Won.{final_round, symbol_round, above_round}
use Rattle.cell_memory.specs.declared.Cell.{Cell}
use Rattle.cell_memory.specs.declared.Cell.TheVariants.{Empty1, Symbol, Empty2, Above}
use Rattle.cell_memory.specs.Memory.{cell_of}
use Rattle.acceptance_words.specs.Rows.{round_in}
use Rattle.acceptance.specs.Put.{RowPut}
use Rattle.acceptance.specs.Cells.{annotation_order_at, PartsBelow, cell_round}

module _ {c : Cell} {n : ℕ} where
  pub parts_symbol : (a u s : ℕ) → c ≡ Symbol a u s → PartsBelow n (cell_of c) → (u < n) × (s < n)
  unfolding cell_of
  parts_symbol a u s e = subst (λ (d : Cell). PartsBelow n (cell_of d)) e

  pub parts_above : (w t : ℕ) → c ≡ Above w t → PartsBelow n (cell_of c) → (w < n) × (t < n)
  unfolding cell_of
  parts_above w t e = subst (λ (d : Cell). PartsBelow n (cell_of d)) e

-- a cell that is no symbol has no annotation
pub no_annotation : (cells : List Walk.Cell) (c : Cell) → ((a u s : ℕ) → c ≡ Symbol a u s → ⊥) → 0 ≡ annotation_order_at cells (cell_of c)
unfolding annotation_order_at cell_of
no_annotation cells Empty1 h = refl
no_annotation cells (Symbol a u s) h = absurd (h a u s refl)
no_annotation cells Empty2 h = refl
no_annotation cells (Above w t) h = refl

module _ (T : Saturated) (k : ℕ) {b : List ℕ} {i : ℕ} {c : Cell} {now : List ℕ} where
  pub by_empty1 : c ≡ Empty1 → RowPut b i (final_round T.table.final1) now → RowPut b i (cell_round T k b (cell_of c)) now
  unfolding cell_round cell_of
  by_empty1 e = subst (λ (d : Cell). RowPut b i (cell_round T k b (cell_of d)) now) (sym e)

  pub by_symbol : (a u s : ℕ) → c ≡ Symbol a u s → RowPut b i (symbol_round T.sizes a k (round_in b u) (round_in b s) T.table.moves) now
      → RowPut b i (cell_round T k b (cell_of c)) now
  unfolding cell_round cell_of
  by_symbol a u s e = subst (λ (d : Cell). RowPut b i (cell_round T k b (cell_of d)) now) (sym e)

  pub by_empty2 : c ≡ Empty2 → RowPut b i (final_round T.table.final2) now → RowPut b i (cell_round T k b (cell_of c)) now
  unfolding cell_round cell_of
  by_empty2 e = subst (λ (d : Cell). RowPut b i (cell_round T k b (cell_of d)) now) (sym e)

  pub by_above : (w t : ℕ) → c ≡ Above w t → RowPut b i (above_round (round_in b w) (round_in b t) (edges T.table)) now
      → RowPut b i (cell_round T k b (cell_of c)) now
  unfolding cell_round cell_of
  by_above w t e = subst (λ (d : Cell). RowPut b i (cell_round T k b (cell_of d)) now) (sym e)
