-- Annotated stacks of order 1 and 2, and document 01's table of operations.
-- Assumes nothing.
use Rattle.std.specs.Prelude.{ℕ}
use Rattle.std.proofs.Math.Option.{Option, none, some}

mutual
  -- An order-1 stack: a list of symbols, top first, each annotated. `cons1 a u s` is symbol a annotated u, then s.
  pub data Stack1 : Type 0 where
    nil1 : Stack1
    cons1 : ℕ → Annotation → Stack1 → Stack1

  -- An order-2 stack: a list of order-1 stacks, top first.
  pub data Stack2 : Type 0 where
    nil2 : Stack2
    cons2 : Stack1 → Stack2 → Stack2

  -- An annotation: one stack of order 1 or 2.
  pub data Annotation : Type 0 where
    of1 : Stack1 → Annotation
    of2 : Stack2 → Annotation

-- the order of an annotation
unfoldable pub annotation_order : Annotation → ℕ
annotation_order (of1 s) = 1
annotation_order (of2 t) = 2

-- The eight operations, by rising code; the first three name a symbol b.
pub data Operation : Type 0 where
  rewrite push1 push2 : ℕ → Operation
  copy pop1 pop2 collapse1 collapse2 : Operation

-- "top afterwards": what the operation leaves of symbol a annotated u, then s, then t.
unfoldable pub after : Operation → ℕ → Annotation → Stack1 → Stack2 → Option Stack2
after (rewrite b) a u s t = some (cons2 (cons1 b u s) t)
after (push1 b) a u s t = some (cons2 (cons1 b (of1 s) (cons1 a u s)) t)
after (push2 b) a u s t = some (cons2 (cons1 b (of2 t) (cons1 a u s)) t)
after copy a u s t = some (cons2 (cons1 a u s) (cons2 (cons1 a u s) t))
after pop1 a u s t = some (cons2 s t)
after pop2 a u s t = some t
after collapse1 a (of1 u) s t = some (cons2 u t)
after collapse1 a (of2 u) s t = none
after collapse2 a (of1 u) s t = none
after collapse2 a (of2 u) s t = some u

-- "new cells": how many cells a guided step by the operation adds.
unfoldable pub new_cells : Operation → ℕ
new_cells (rewrite b) = 2
new_cells (push1 b) = 3
new_cells (push2 b) = 3
new_cells copy = 4
new_cells pop1 = 1
new_cells pop2 = 0
new_cells collapse1 = 1
new_cells collapse2 = 0
