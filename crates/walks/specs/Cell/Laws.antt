-- What holds of the stacks that cells stand for: adding cells changes no earlier one, and the new cells of an operation stand for what
-- document 01's line of the operation leaves.
-- Assumes nothing.
use Rattle.std.specs.Prelude.{ℕ, suc, ◌<◌, ◌≡◌, refl, List, [], ◌∷◌, ◌++◌, map, length, get_or, take}
use Rattle.std.proofs.Common.{ap, sym, ◌∙◌, subst, arith}
use Rattle.std.proofs.Math.Option.{some, some-injective, none-ne-some}
use Rattle.stacks.specs.Stack.{Stack1, nil1, cons1, Stack2, nil2, cons2, Annotation, of1, of2, annotation_order, after, new_cells}
use Rattle.stacks.specs.Stack.{Operation, rewrite, push1, push2, copy, pop1, pop2, collapse1, collapse2}
use Rattle.walks.specs.Cell.{Cell, empty1, symbol, empty2, above, order1, order2, stack_at, stack_of, stacks_from, stacks, cells_after, root_after}
use Rattle.walks.specs.Cell.Formed.{cell_order, cell_at, order_at, Formed}
use Rattle.walks.specs.Cell.Values.{pass, HasValue, make_from, root_value, root_stands}
use Rattle.walks.specs.Cell.Values.{pass_same, Valuation, value_at, value_by, value_of, values, length_values, value_kept, value_before, value_at_lem}

-- ---- the stacks of cells are values of cells

abbrev pub stack_kind : Valuation Cell (Unit {0}) Annotation
stack_kind =
    record {
      cell = λ c. c;
      extra = λ c. tt;
      make = λ c f. c;
      cell_make = λ c f. refl;
      extra_make = λ c f. refl;
      none1 = of1 nil1;
      none2 = of2 nil2;
      symbol_by = λ f a u s. of1 (cons1 a u (order1 s));
      above_by = λ f w t. of2 (cons2 (order1 w) (order2 t));
    }

pub stack_of_value : (us : List Annotation) (c : Cell) → stack_of us c ≡ value_of stack_kind us c
unfolding stack_of stack_at value_of value_by value_at
stack_of_value us empty1 = refl
stack_of_value us (symbol a u s) = refl
stack_of_value us empty2 = refl
stack_of_value us (above w t) = refl

pub stacks_from_pass : (us : List Annotation) (cells : List Cell) → stacks_from us cells ≡ pass stack_of us cells
unfolding stacks_from pass
stacks_from_pass us [] = refl
stacks_from_pass us (c ∷ cs) = stacks_from_pass (us ++ (stack_of us c ∷ [])) cs

pub stacks_values : (cells : List Cell) → stacks cells ≡ values stack_kind cells
unfolding stacks values
stacks_values cells = stacks_from_pass [] cells ∙ pass_same stack_of (value_of stack_kind) stack_of_value [] cells

pub stack_value : (cells : List Cell) (n : ℕ) → stack_at (stacks cells) n ≡ value_at stack_kind (values stack_kind cells) n
unfolding stack_at value_at
stack_value cells n = ap (λ (us : List Annotation). get_or us n (of1 nil1)) (stacks_values cells)

map_same : {A : Type 0} (l : List A) → map (λ x. x) l ≡ l
map_same [] = refl
map_same {A} (x ∷ xs) = ap (λ (l : List A). x ∷ l) (map_same xs)

-- ---- one pass over the cells

pub length_stacks : (cells : List Cell) → length (stacks cells) ≡ length cells
length_stacks cells = ap length (stacks_values cells) ∙ length_values stack_kind cells

pub stack_kept : (cells more : List Cell) (n : ℕ) → n < length cells → stack_at (stacks (cells ++ more)) n ≡ stack_at (stacks cells) n
stack_kept cells more n h = stack_value (cells ++ more) n ∙ value_kept stack_kind cells more n h ∙ sym (stack_value cells n)

pub stack_before : (cells : List Cell) (n : ℕ) → n < length cells → stack_at (stacks cells) n ≡ stack_of (take n (stacks cells)) (cell_at cells n)
stack_before cells n h =
    stack_value cells n ∙ value_before stack_kind cells empty1 n h
    ∙ sym (stack_of_value (take n (values stack_kind cells)) (cell_at cells n))
    ∙ ap (λ (us : List Annotation). stack_of (take n us) (cell_at cells n)) (sym (stacks_values cells))

-- where cells refer to lower ones, each stands for the stack that the stacks of all give it
pub stack_at_lem : {cells : List Cell} → Formed cells → (n : ℕ) → n < length cells → stack_at (stacks cells) n ≡ stack_of (stacks cells) (cell_at cells n)
stack_at_lem {cells} x n h =
    stack_value cells n ∙ value_at_lem stack_kind cells empty1 (subst Formed (sym (map_same cells)) x) n h
    ∙ sym (stack_of_value (values stack_kind cells) (cell_at cells n))
    ∙ ap (λ (us : List Annotation). stack_of us (cell_at cells n)) (sym (stacks_values cells))

-- ---- orders

pub annotation_of1 : (v : Annotation) → annotation_order v ≡ 1 → v ≡ of1 (order1 v)
unfolding annotation_order order1
annotation_of1 (of1 s) e = refl
annotation_of1 (of2 t) e = absurd (omega arith)

pub annotation_of2 : (v : Annotation) → annotation_order v ≡ 2 → v ≡ of2 (order2 v)
unfolding annotation_order order2
annotation_of2 (of1 s) e = absurd (omega arith)
annotation_of2 (of2 t) e = refl

-- the stack of a cell has the cell's order
pub stack_of_order : (us : List Annotation) (c : Cell) → annotation_order (stack_of us c) ≡ cell_order c
unfolding annotation_order stack_of cell_order
stack_of_order us empty1 = refl
stack_of_order us (symbol a u s) = refl
stack_of_order us empty2 = refl
stack_of_order us (above w t) = refl

pub stack_order : (cells : List Cell) (n : ℕ) → n < length cells → annotation_order (stack_at (stacks cells) n) ≡ order_at cells n
unfolding order_at
stack_order cells n h = ap annotation_order (stack_before cells n h) ∙ stack_of_order (take n (stacks cells)) (cell_at cells n)

-- ---- the new cells of an operation

pub length_cells_after : (op : Operation) (n a u s t : ℕ) → length (cells_after op n a u s t) ≡ new_cells op
unfolding cells_after new_cells
length_cells_after (rewrite b) n a u s t = refl
length_cells_after (push1 b) n a u s t = refl
length_cells_after (push2 b) n a u s t = refl
length_cells_after copy n a u s t = refl
length_cells_after pop1 n a u s t = refl
length_cells_after pop2 n a u s t = refl
length_cells_after collapse1 n a u s t = refl
length_cells_after collapse2 n a u s t = refl

make_from_same : (i : ℕ) (f : ℕ → Unit {0}) (cells : List Cell) → make_from stack_kind i f cells ≡ cells
unfolding make_from
make_from_same i f [] = refl
make_from_same i f (c ∷ cs) = ap (λ (l : List Cell). c ∷ l) (make_from_same (suc i) f cs)

-- the value that the new cells give the root is the stack of document 01's line
pub after_value : (op : Operation) (a : ℕ) (U : Annotation) (S : Stack1) (T : Stack2) {w : Stack2} → after op a U S T ≡ some w
    → root_value stack_kind op (λ i. tt) a U (of1 S) (of2 T) ≡ of2 w
unfolding after root_value order1 order2
after_value (rewrite b) a U S T {w} e = ap of2 (some-injective _ w e)
after_value (push1 b) a U S T {w} e = ap of2 (some-injective _ w e)
after_value (push2 b) a U S T {w} e = ap of2 (some-injective _ w e)
after_value copy a U S T {w} e = ap of2 (some-injective _ w e)
after_value pop1 a U S T {w} e = ap of2 (some-injective _ w e)
after_value pop2 a U S T {w} e = ap of2 (some-injective _ w e)
after_value collapse1 a (of1 u) S T {w} e = ap of2 (some-injective _ w e)
after_value collapse1 a (of2 u) S T {w} e = absurd (none-ne-some w e)
after_value collapse2 a (of1 u) S T {w} e = absurd (none-ne-some w e)
after_value collapse2 a (of2 u) S T {w} e = ap of2 (some-injective _ w e)

-- The root cell that an operation leaves stands for what document 01's line leaves of a annotated U, then S, then T.
pub root_after_lem : (op : Operation) (a : ℕ) (cells : List Cell) {u s t : ℕ} (U : Annotation) {S : Stack1} {T w : Stack2}
    → u < length cells → s < length cells → t < length cells
    → stack_at (stacks cells) u ≡ U → stack_at (stacks cells) s ≡ of1 S → stack_at (stacks cells) t ≡ of2 T → after op a U S T ≡ some w
    → stack_at (stacks (cells ++ cells_after op (length cells) a u s t)) (root_after op (length cells) u t) ≡ of2 w
root_after_lem op a cells {u} {s} {t} U {S} {T} hu hs ht eu es et e =
    let stands : (n : ℕ) (v : Annotation) → n < length cells → stack_at (stacks cells) n ≡ v → HasValue stack_kind cells n v =
    λ n v h q. record { exists = h; is = sym (stack_value cells n) ∙ q } in
    let r = root_stands stack_kind (λ i. tt) a (stands u U hu eu) (stands s (of1 S) hs es) (stands t (of2 T) ht et) op in
    stack_value (cells ++ cells_after op (length cells) a u s t) (root_after op (length cells) u t)
    ∙ (rw (make_from_same 0 (λ i. tt) (cells_after op (length cells) a u s t)) at r.is) ∙ after_value op a U S T e
