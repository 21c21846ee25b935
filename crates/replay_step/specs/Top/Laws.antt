-- The top of a stack in cells is the top of the stack that they stand for, and the new cells of a rule that applies stand for what it leaves.
-- Assumes nothing.
use Prim.Native.Nat.{ℕ, ◌+◌, ◌<◌, ◌≤◌}
use Rattle.std.specs.Prelude.{Bool, ◌&&◌, ◌≡◌, eqb}
use Rattle.std.proofs.Math.Bool.{true, false}
use Rattle.std.proofs.lemmas.Bool.{false≢true}
use Rattle.std.proofs.Math.Path.{refl, ap, sym, subst}
use Rattle.std.proofs.Common.{◌∙◌, eqb-true}
use Rattle.std.proofs.Math.Option.{Option, none, some, some-injective, none-ne-some}
use mathlib.Core.List.{List, ◌++◌}
use native.Mathlib.Omega.{arith}
use Rattle.std.proofs.Math.ListN.{length, length-append, get_or-eq_default}
use Rattle.words.specs.Laws.Tests.{by_test, and_left, and_right}
use Rattle.stacks.specs.Stack.{Stack1, nil1, cons1, Stack2, nil2, cons2, Annotation, of1, of2, annotation_order, after, new_cells}
use Rattle.stacks.specs.Stack.{Operation, rewrite, push1, push2, copy, pop1, pop2, collapse1, collapse2}
use Rattle.stacks.specs.System.{Rule, entered, step_on}
use Rattle.walks.specs.Cell.{Cell, empty1, symbol, empty2, above, order1, order2, stack_at, stack_of, stacks, cells_after, root_after}
use Rattle.walks.specs.Cell.Formed.{cell_order, cell_at, order_at, Formed, formed_symbol, formed_above, Takes, TopFormed, formed_after}
use Rattle.walks.specs.Cell.Laws.{stack_at_lem, stack_order, annotation_of1, annotation_of2, length_cells_after, root_after_lem}
use Rattle.cell_memory.specs.declared.Cell as Value
use Rattle.cell_memory.specs.declared.Cell.TheVariants.{Empty1, Symbol, Empty2, Above}
use Rattle.cell_memory.specs.Memory as Memory
use Rattle.cell_steps.specs.declared.Top.{Top}
use Rattle.cell_steps.specs.Steps.{cell_number}
use Rattle.start_records.specs.Body.{cells_in}
use Rattle.start_records.specs.Body.Laws.{length_cells_in}
use Rattle.replay_step.specs.Top.{top_on, top_of, top_in, takes_order, rule_fits}

-- ---- the top

-- neither has a top, or the cells of the one stand for the stacks of the other
pub data TopCase (cells : List Cell) : Option Top → Stack2 → Type 0 where
  no_stack : TopCase cells none nil2
  no_symbol : (t : Stack2) → TopCase cells none (cons2 nil1 t)
  a_top : (x : Top) → TopFormed cells x.annotation x.rest x.below
      → TopCase cells (some x)
      (cons2 (cons1 x.symbol (stack_at (stacks cells) x.annotation) (order1 (stack_at (stacks cells) x.rest))) (order2 (stack_at (stacks cells) x.below)))

module _ {cells : List Cell} (F : Formed cells) where
  -- order-1 cell c, which is d, on order-2 cell t
  top_on_lem : (c t : ℕ) (d : Cell) → c < length cells → t < length cells → order_at cells t ≡ 2 → cell_at cells c ≡ d → cell_order d ≡ 1
      → TopCase cells (top_on t d) (cons2 (order1 (stack_of (stacks cells) d)) (order2 (stack_at (stacks cells) t)))
  unfolding top_on stack_of order1 cell_order
  top_on_lem c t empty1 hc ht ot e o = no_symbol _
  top_on_lem c t (symbol a u s) hc ht ot e o =
      let r = formed_symbol F e in
      let hu : u < c = r.0 in
      let hs : s < c = r.1 in
      a_top (record { symbol = a; annotation = u; rest = s; below = t })
      (record { u_exists = omega arith; s_exists = omega arith; t_exists = ht; s_order = r.2; t_order = ot })
  top_on_lem c t empty2 hc ht ot e o = absurd (omega arith)
  top_on_lem c t (above x y) hc ht ot e o = absurd (omega arith)

  -- the root, which is d
  top_root : (root : ℕ) (d : Cell) → root < length cells → cell_at cells root ≡ d → cell_order d ≡ 2
      → TopCase cells (top_of cells d) (order2 (stack_of (stacks cells) d))
  unfolding top_of stack_of order2 cell_order order_at cell_number
  top_root root empty1 h e o = absurd (omega arith)
  top_root root (symbol a u s) h e o = absurd (omega arith)
  top_root root empty2 h e o = no_stack
  top_root root (above c t) h e o =
      let r = formed_above F e in
      let hc : c < root = r.0 in
      let ht : t < root = r.1 in
      let lc : c < length cells = omega arith in
      subst (λ (v : Annotation). TopCase cells (top_on t (cell_at cells c)) (cons2 (order1 v) (order2 (stack_at (stacks cells) t))))
      (sym (stack_at_lem F c lc)) (top_on_lem c t (cell_at cells c) lc (omega arith) r.3 refl r.2)

  pub top_case : (root : ℕ) → root < length cells → order_at cells root ≡ 2 → TopCase cells (top_in cells root) (order2 (stack_at (stacks cells) root))
  unfolding top_in order_at cell_number
  top_case root h o =
      subst (λ (v : Annotation). TopCase cells (top_of cells (cell_at cells root)) (order2 v)) (sym (stack_at_lem F root h)) (top_root root (cell_at cells root) h refl o)

-- ---- whether an operation leaves a stack

takes_none : (op : Operation) (a : ℕ) (u : Annotation) (s : Stack1) (t : Stack2) → takes_order op (annotation_order u) ≡ false → after op a u s t ≡ none
unfolding takes_order annotation_order after
takes_none (rewrite b) a u s t e = absurd (false≢true (sym e))
takes_none (push1 b) a u s t e = absurd (false≢true (sym e))
takes_none (push2 b) a u s t e = absurd (false≢true (sym e))
takes_none copy a u s t e = absurd (false≢true (sym e))
takes_none pop1 a u s t e = absurd (false≢true (sym e))
takes_none pop2 a u s t e = absurd (false≢true (sym e))
takes_none collapse1 a (of1 u) s t e = absurd (false≢true (sym e))
takes_none collapse1 a (of2 u) s t e = refl
takes_none collapse2 a (of1 u) s t e = refl
takes_none collapse2 a (of2 u) s t e = absurd (false≢true (sym e))

takes_some : (op : Operation) (a : ℕ) (u : Annotation) (s : Stack1) (t : Stack2) → takes_order op (annotation_order u) ≡ true → (w : Stack2) × (after op a u s t ≡ some w)
unfolding takes_order annotation_order after
takes_some (rewrite b) a u s t e = (_, refl)
takes_some (push1 b) a u s t e = (_, refl)
takes_some (push2 b) a u s t e = (_, refl)
takes_some copy a u s t e = (_, refl)
takes_some pop1 a u s t e = (_, refl)
takes_some pop2 a u s t e = (_, refl)
takes_some collapse1 a (of1 u) s t e = (_, refl)
takes_some collapse1 a (of2 u) s t e = absurd (false≢true e)
takes_some collapse2 a (of1 u) s t e = absurd (false≢true e)
takes_some collapse2 a (of2 u) s t e = (_, refl)

takes_is : (op : Operation) (k : ℕ) → takes_order op k ≡ true → Takes op k
unfolding takes_order
takes_is (rewrite b) k e = tt
takes_is (push1 b) k e = tt
takes_is (push2 b) k e = tt
takes_is copy k e = tt
takes_is pop1 k e = tt
takes_is pop2 k e = tt
takes_is collapse1 k e = eqb-true k 1 e
takes_is collapse2 k e = eqb-true k 2 e

-- ---- a step on cells

-- the root that an operation leaves is one of the cells
root_below : (op : Operation) (n u t : ℕ) → u < n → t < n → root_after op n u t < n + new_cells op
unfolding root_after new_cells
root_below (rewrite b) n u t h k = omega arith
root_below (push1 b) n u t h k = omega arith
root_below (push2 b) n u t h k = omega arith
root_below copy n u t h k = omega arith
root_below pop1 n u t h k = omega arith
root_below pop2 n u t h k = omega arith
root_below collapse1 n u t h k = omega arith
root_below collapse2 n u t h k = omega arith

-- the new root stands, and the rule leaves its stack
pub record StepOnCells (cells : List Cell) (w : Stack2) (ρ : Rule) (p root' : ℕ) (cells' : List Cell) : Type 0 where
  pub formed : Formed cells'
  pub root_exists : root' < length cells'
  pub root_order : order_at cells' root' ≡ 2
  pub leaves : step_on ρ p w ≡ some (record { control = ρ.next; stack = order2 (stack_at (stacks cells') root') })

module _ {cells : List Cell} (F : Formed cells) (root : ℕ) (h : root < length cells) (o : order_at cells root ≡ 2) (ρ : Rule) (p : ℕ) where
  pub no_top : top_in cells root ≡ none → step_on ρ p (order2 (stack_at (stacks cells) root)) ≡ none
  unfolding step_on
  no_top e = go (top_case F root h o) e
    where
      go : {y : Option Top} {w : Stack2} → TopCase cells y w → y ≡ none → step_on ρ p w ≡ none
      go no_stack e = refl
      go (no_symbol t) e = refl
      go (a_top x X) e = absurd (none-ne-some x (sym e))

  module _ (x : Top) (e : top_in cells root ≡ some x) where
    abbrev U : Annotation
    U = stack_at (stacks cells) x.annotation

    abbrev S : Stack1
    S = order1 (stack_at (stacks cells) x.rest)

    abbrev T : Stack2
    T = order2 (stack_at (stacks cells) x.below)

    topped : TopFormed cells x.annotation x.rest x.below × (order2 (stack_at (stacks cells) root) ≡ cons2 (cons1 x.symbol U S) T)
    topped = go (top_case F root h o) e
      where
        stack_by : Top → Stack2
        stack_by y =
            cons2 (cons1 y.symbol (stack_at (stacks cells) y.annotation) (order1 (stack_at (stacks cells) y.rest))) (order2 (stack_at (stacks cells) y.below))

        go : {y : Option Top} {w : Stack2} → TopCase cells y w → y ≡ some x → TopFormed cells x.annotation x.rest x.below × (w ≡ cons2 (cons1 x.symbol U S) T)
        go no_stack e = absurd (none-ne-some x e)
        go (no_symbol t) e = absurd (none-ne-some x e)
        go (a_top y Y) e =
            let z : y ≡ x = some-injective y x e in
            (subst (λ (v : Top). TopFormed cells v.annotation v.rest v.below) z Y, ap stack_by z)

    -- control and symbol are those of the rule
    abbrev named : Bool
    named = eqb p ρ.control && eqb x.symbol ρ.symbol

    step_named : named ≡ true → step_on ρ p (order2 (stack_at (stacks cells) root)) ≡ entered ρ.next (after ρ.operation x.symbol U S T)
    unfolding step_on
    step_named t = ap (step_on ρ p) topped.1 ∙ rw (step_on, t)

    step_other : named ≡ false → step_on ρ p (order2 (stack_at (stacks cells) root)) ≡ none
    unfolding step_on
    step_other t = ap (step_on ρ p) topped.1 ∙ rw (step_on, t)

    order_is : order_at cells x.annotation ≡ annotation_order U
    order_is = sym (stack_order cells x.annotation topped.0.u_exists)

    pub fits_not : rule_fits ρ p x.symbol (order_at cells x.annotation) ≡ false → step_on ρ p (order2 (stack_at (stacks cells) root)) ≡ none
    unfolding rule_fits entered
    fits_not f =
        by_test named
        (λ t.
        let k : takes_order ρ.operation (annotation_order U) ≡ false = ap (takes_order ρ.operation) (sym order_is) ∙ (rw t at f) in
        step_named t ∙ ap (entered ρ.next) (takes_none ρ.operation x.symbol U S T k))
        (λ t. step_other t)

    pub fits : rule_fits ρ p x.symbol (order_at cells x.annotation) ≡ true
        → StepOnCells cells (order2 (stack_at (stacks cells) root)) ρ p (root_after ρ.operation (length cells) x.annotation x.below)
        (cells ++ cells_after ρ.operation (length cells) x.symbol x.annotation x.rest x.below)
    unfolding rule_fits entered order2 annotation_order
    fits f =
        let X = topped.0 in
        let t : named ≡ true = and_left named _ f in
        let k : takes_order ρ.operation (order_at cells x.annotation) ≡ true = and_right named _ f in
        let (w, left) = takes_some ρ.operation x.symbol U S T (ap (takes_order ρ.operation) (sym order_is) ∙ k) in
        let more : List Cell = cells_after ρ.operation (length cells) x.symbol x.annotation x.rest x.below in
        let new : ℕ = root_after ρ.operation (length cells) x.annotation x.below in
        let s : stack_at (stacks cells) x.rest ≡ of1 S = annotation_of1 _ (stack_order cells x.rest X.s_exists ∙ X.s_order) in
        let b : stack_at (stacks cells) x.below ≡ of2 T = annotation_of2 _ (stack_order cells x.below X.t_exists ∙ X.t_order) in
        let is : stack_at (stacks (cells ++ more)) new ≡ of2 w =
        root_after_lem ρ.operation x.symbol cells U X.u_exists X.s_exists X.t_exists refl s b left in
        let l : length (cells ++ more) ≡ length cells + new_cells ρ.operation =
        length-append cells more ∙ ap (λ (n : ℕ). length cells + n) (length_cells_after ρ.operation (length cells) x.symbol x.annotation x.rest x.below) in
        let there : new < length (cells ++ more) = rw l (root_below ρ.operation (length cells) x.annotation x.below X.u_exists X.t_exists) in
        record {
          formed = formed_after x.symbol F X ρ.operation (takes_is ρ.operation _ k);
          root_exists = there;
          root_order = sym (stack_order (cells ++ more) new there) ∙ ap annotation_order is;
          leaves = step_named t ∙ ap (entered ρ.next) left ∙ ap (λ (v : Annotation). some (record { control = ρ.next; stack = order2 v })) (sym is);
        }

-- ---- cells by value

pub cell_past : (n : ℕ) (bytes : List ℕ) {i : ℕ} → n ≤ i → empty1 ≡ cell_number (cells_in n bytes) i
unfolding cell_number
cell_past n bytes {i} h =
    let l : length (cells_in n bytes) ≡ n = length_cells_in n bytes in
    sym (get_or-eq_default (cells_in n bytes) empty1 {n = i} (omega arith))

-- the top on a cell by value, and none on one that is no symbol
module _ (t : ℕ) {c : Value.Cell} {x : Cell} (e : Memory.cell_of c ≡ x) where
  pub top_is : {a u s : ℕ} → c ≡ Symbol a u s → some (record { symbol = a; annotation = u; rest = s; below = t }) ≡ top_on t x
  unfolding top_on Memory.cell_of
  top_is f = ap (λ (d : Value.Cell). top_on t (Memory.cell_of d)) (sym f) ∙ ap (top_on t) e

  pub no_top_on : ((a u s : ℕ) → c ≡ Symbol a u s → ⊥) → none ≡ top_on t x
  unfolding top_on Memory.cell_of
  no_top_on h = no_symbol_top c h ∙ ap (top_on t) e
    where
      no_symbol_top : (d : Value.Cell) → ((a u s : ℕ) → d ≡ Symbol a u s → ⊥) → none ≡ top_on t (Memory.cell_of d)
      no_symbol_top Empty1 h = refl
      no_symbol_top (Symbol a u s) h = absurd (h a u s refl)
      no_symbol_top Empty2 h = refl
      no_symbol_top (Above w v) h = refl

-- the top of a root by value, and none of one that is no order-2 cell with an order-1 cell
module _ (cells : List Cell) (root : ℕ) {c : Value.Cell} (e : Memory.cell_of c ≡ cell_number cells root) where
  pub root_is : {w t : ℕ} {r : Option Top} → c ≡ Above w t → r ≡ top_on t (cell_number cells w) → r ≡ top_in cells root
  unfolding top_in top_of top_on cell_number Memory.cell_of
  root_is f g = g ∙ ap (λ (d : Value.Cell). top_of cells (Memory.cell_of d)) (sym f) ∙ ap (top_of cells) e

  pub no_root : ((w t : ℕ) → c ≡ Above w t → ⊥) → none ≡ top_in cells root
  unfolding top_in top_of Memory.cell_of
  no_root h = no_above_top c h ∙ ap (top_of cells) e
    where
      no_above_top : (d : Value.Cell) → ((w t : ℕ) → d ≡ Above w t → ⊥) → none ≡ top_of cells (Memory.cell_of d)
      no_above_top Empty1 h = refl
      no_above_top (Symbol a u s) h = refl
      no_above_top Empty2 h = refl
      no_above_top (Above w t) h = absurd (h w t refl)

-- a rule that applies names the top symbol
pub fits_symbol : (ρ : Rule) (p a k : ℕ) → rule_fits ρ p a k ≡ true → a ≡ ρ.symbol
unfolding rule_fits
fits_symbol ρ p a k f =
    let named : Bool = eqb p ρ.control && eqb a ρ.symbol in
    eqb-true a ρ.symbol (and_right (eqb p ρ.control) _ (and_left named _ f))
