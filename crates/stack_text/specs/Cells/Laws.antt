-- The text of the stack of a cell, by the cells to which it refers.
-- Assumes nothing.
use Rattle.std.specs.Prelude.{ℕ, ◌<◌, ◌≡◌, refl, ◌⊎◌, List, [], ◌++◌}
use Rattle.std.proofs.Math.Path.{ap, sym}
use Rattle.std.proofs.Common.{◌∙◌, inl, inr, arith}
use Rattle.std.proofs.Math.ListN.{length}
use Rattle.stacks.specs.Stack.{nil1, Annotation, annotation_order}
use Rattle.walks.specs.Cell.{empty1, symbol, empty2, above, order1, order2, stack_of, stacks}
use Rattle.walks.specs.Cell as walks
use Rattle.walks.specs.Cell.Laws.{stack_at_lem, stack_order, annotation_of1, annotation_of2}
use Rattle.walks.specs.Cell.Formed.{cell_order, cell_at, order_at, formed_symbol, formed_above}
use Rattle.cell_memory.specs.Memory.{cell_of}
use Rattle.cell_memory.specs.declared.Cell.{Cell}
use Rattle.cell_memory.specs.declared.Cell.TheVariants.{Empty1, Symbol, Empty2, Above}
use Rattle.services.specs.Listing.{ascii, decimal}
use Rattle.services.specs.Brackets.{between, symbols_text, stacks_text, annotation_text}
use Rattle.bytes_in.specs.Records.{record_at}
use Rattle.start_records.specs.Body.{cell_read, cells_in}
use Rattle.start_records.specs.Body.Laws.{length_cells_in, cells_in_at}
use Rattle.stack_text.specs.Cells.{CellsStand, stack_in}

-- ---- a cell of an order that is not of the one kind is of the other

-- a variant's number is none of three others
pub no_variant : {k a b c : ℕ} → (k ≡ a → ⊥) → (k ≡ b → ⊥) → (k ≡ c → ⊥) → (k ≡ a) ⊎ ((k ≡ b) ⊎ (k ≡ c)) → ⊥
no_variant f g h (inl e) = f e
no_variant f g h (inr (inl e)) = g e
no_variant f g h (inr (inr e)) = h e

no_symbol : (c : Cell) → ((a u s : ℕ) → c ≡ Symbol a u s → ⊥) → cell_order (cell_of c) ≡ 1 → c ≡ Empty1
unfolding cell_order cell_of
no_symbol Empty1 h o = refl
no_symbol (Symbol a u s) h o = absurd (h a u s refl)
no_symbol Empty2 h o = absurd (omega arith)
no_symbol (Above w t) h o = absurd (omega arith)

no_above : (c : Cell) → ((w t : ℕ) → c ≡ Above w t → ⊥) → cell_order (cell_of c) ≡ 2 → c ≡ Empty2
unfolding cell_order cell_of
no_above Empty1 h o = absurd (omega arith)
no_above (Symbol a u s) h o = absurd (omega arith)
no_above Empty2 h o = refl
no_above (Above w t) h o = absurd (h w t refl)

other_order : (c : walks.Cell) → (cell_order c ≡ 1 → ⊥) → cell_order c ≡ 2
unfolding cell_order
other_order empty1 h = absurd (h refl)
other_order (symbol a u s) h = absurd (h refl)
other_order empty2 h = refl
other_order (above w t) h = refl

module _ {count : ℕ} {cells : List ℕ} (x : CellsStand count cells) {n : ℕ} (there : n < count) where
  -- ---- the stack of cell n has its order

  order_is : annotation_order (stack_in count cells n) ≡ order_at (cells_in count cells) n
  unfolding stack_in
  order_is =
      let l : length (cells_in count cells) ≡ count = length_cells_in count cells in
      stack_order (cells_in count cells) n (omega arith)

  pub annotation1 : 1 ≡ order_at (cells_in count cells) n → annotation_text (stack_in count cells n) ≡ ascii "1{[" ++ symbols_text (order1 (stack_in count cells n)) ++ ascii "]}"
  unfolding annotation_text
  annotation1 o = ap annotation_text (annotation_of1 _ (order_is ∙ sym o))

  -- an order that is not 1 is 2
  pub order2_is : {k : ℕ} → k ≡ order_at (cells_in count cells) n → (k ≡ 1 → ⊥) → order_at (cells_in count cells) n ≡ 2
  unfolding order_at
  order2_is e h = other_order (cell_at (cells_in count cells) n) (λ o. h (e ∙ o))

  pub annotation2 : {k : ℕ} → k ≡ order_at (cells_in count cells) n → (k ≡ 1 → ⊥)
      → annotation_text (stack_in count cells n) ≡ ascii "2{[" ++ stacks_text (order2 (stack_in count cells n)) ++ ascii "]}"
  unfolding annotation_text
  annotation2 e h = ap annotation_text (annotation_of2 _ (order_is ∙ order2_is e h))

  -- ---- the cell that is read, by its kind

  module _ (c : Cell) (read : cell_of c ≡ cell_read (record_at 6 n cells)) where
    cell_is : cell_of c ≡ cell_at (cells_in count cells) n
    cell_is = cells_in_at count cells there read

    stack_is : stack_in count cells n ≡ stack_of (stacks (cells_in count cells)) (cell_of c)
    unfolding stack_in
    stack_is =
        let l : length (cells_in count cells) ≡ count = length_cells_in count cells in
        stack_at_lem x.formed n (omega arith) ∙ ap (stack_of (stacks (cells_in count cells))) (sym cell_is)

    -- a symbol refers to lower cells, and its rest has order 1
    pub symbol_refers : {a u s : ℕ} → c ≡ Symbol a u s → (u < n) × (s < n) × (order_at (cells_in count cells) s ≡ 1)
    unfolding cell_of
    symbol_refers e = formed_symbol x.formed (sym cell_is ∙ ap cell_of e)

    pub above_refers : {w t : ℕ} → c ≡ Above w t → (w < n) × (t < n) × (order_at (cells_in count cells) w ≡ 1) × (order_at (cells_in count cells) t ≡ 2)
    unfolding cell_of
    above_refers e = formed_above x.formed (sym cell_is ∙ ap cell_of e)

    pub symbols_are : {a u s : ℕ} → c ≡ Symbol a u s
        → symbols_text (order1 (stack_in count cells n))
        ≡ decimal a ++ ascii " " ++ annotation_text (stack_in count cells u) ++ between (order1 (stack_in count cells s)) ++ symbols_text (order1 (stack_in count cells s))
    unfolding cell_of stack_of order1 symbols_text stack_in
    symbols_are e = ap (λ (v : Annotation). symbols_text (order1 v)) (stack_is ∙ ap (λ (d : Cell). stack_of (stacks (cells_in count cells)) (cell_of d)) e)

    pub stacks_are : {w t : ℕ} → c ≡ Above w t
        → stacks_text (order2 (stack_in count cells n))
        ≡ ascii "[" ++ symbols_text (order1 (stack_in count cells w)) ++ ascii "]" ++ stacks_text (order2 (stack_in count cells t))
    unfolding cell_of stack_of order2 stacks_text stack_in
    stacks_are e = ap (λ (v : Annotation). stacks_text (order2 v)) (stack_is ∙ ap (λ (d : Cell). stack_of (stacks (cells_in count cells)) (cell_of d)) e)

    pub between_is : {a u s : ℕ} → c ≡ Symbol a u s → between (order1 (stack_in count cells n)) ≡ ascii " "
    unfolding cell_of stack_of order1 between
    between_is e = ap (λ (v : Annotation). between (order1 v)) (stack_is ∙ ap (λ (d : Cell). stack_of (stacks (cells_in count cells)) (cell_of d)) e)

    -- ---- no symbol, no stack

    cell_order_lem : cell_order (cell_of c) ≡ order_at (cells_in count cells) n
    unfolding order_at
    cell_order_lem = ap cell_order cell_is

    empty1_is : ((a u s : ℕ) → c ≡ Symbol a u s → ⊥) → order_at (cells_in count cells) n ≡ 1 → order1 (stack_in count cells n) ≡ nil1
    unfolding cell_of stack_of order1
    empty1_is h o =
        ap order1 (stack_is ∙ ap (λ (d : Cell). stack_of (stacks (cells_in count cells)) (cell_of d)) (no_symbol c h (cell_order_lem ∙ o)))

    pub symbols_none : ((a u s : ℕ) → c ≡ Symbol a u s → ⊥) → order_at (cells_in count cells) n ≡ 1 → [] ≡ symbols_text (order1 (stack_in count cells n))
    unfolding symbols_text
    symbols_none h o = ap symbols_text (sym (empty1_is h o))

    pub between_none : ((a u s : ℕ) → c ≡ Symbol a u s → ⊥) → order_at (cells_in count cells) n ≡ 1 → [] ≡ between (order1 (stack_in count cells n))
    unfolding between
    between_none h o = ap between (sym (empty1_is h o))

    pub stacks_none : ((w t : ℕ) → c ≡ Above w t → ⊥) → order_at (cells_in count cells) n ≡ 2 → [] ≡ stacks_text (order2 (stack_in count cells n))
    unfolding stacks_text cell_of stack_of order2
    stacks_none h o =
        ap (λ (v : Annotation). stacks_text (order2 v))
        (sym (stack_is ∙ ap (λ (d : Cell). stack_of (stacks (cells_in count cells)) (cell_of d)) (no_above c h (cell_order_lem ∙ o))))
