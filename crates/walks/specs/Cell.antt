-- Cells: stacks in shared storage, where a cell refers to cells of lower number; and the operations on cells.
-- Assumes nothing.
pub mod Formed
pub mod Values
pub mod Laws
use Rattle.std.specs.Prelude.{ℕ, ◌+◌, List, [], ◌∷◌, ◌++◌, get_or}
use Rattle.stacks.specs.Stack.{Stack1, nil1, cons1, Stack2, nil2, cons2, Annotation, of1, of2}
use Rattle.stacks.specs.Stack.{Operation, rewrite, push1, push2, copy, pop1, pop2, collapse1, collapse2}

-- "Kind 1 is an empty order-1 stack, 2 a symbol (first is its annotation, second its order-1 rest), 3 an empty order-2 stack, 4 an
-- order-1 stack (first) on an order-2 stack (second)."
pub data Cell : Type 0 where
  empty1 : Cell
  symbol : ℕ → ℕ → ℕ → Cell
  empty2 : Cell
  above : ℕ → ℕ → Cell

-- The stack of a cell is of order 1 or 2, as an annotation is.
unfoldable pub order1 : Annotation → Stack1
order1 (of1 s) = s
order1 (of2 t) = nil1

unfoldable pub order2 : Annotation → Stack2
order2 (of1 s) = nil2
order2 (of2 t) = t

unfoldable pub stack_at : List Annotation → ℕ → Annotation
stack_at us n = get_or us n (of1 nil1)

-- the stack that a cell stands for, by those of the cells before it
unfoldable pub stack_of : List Annotation → Cell → Annotation
stack_of us empty1 = of1 nil1
stack_of us (symbol a u s) = of1 (cons1 a (stack_at us u) (order1 (stack_at us s)))
stack_of us empty2 = of2 nil2
stack_of us (above w t) = of2 (cons2 (order1 (stack_at us w)) (order2 (stack_at us t)))

-- the stacks us, then those of the cells that follow them
unfoldable pub stacks_from : List Annotation → List Cell → List Annotation
stacks_from us [] = us
stacks_from us (c ∷ cs) = stacks_from (us ++ (stack_of us c ∷ [])) cs

-- the stacks that the cells stand for
unfoldable pub stacks : List Cell → List Annotation
stacks cells = stacks_from [] cells

-- The new cells of an operation on symbol a annotated by cell u, then cell s, then cell t, the first new cell having number n.
unfoldable pub cells_after : Operation → ℕ → ℕ → ℕ → ℕ → ℕ → List Cell
cells_after (rewrite b) n a u s t = symbol b u s ∷ above n t ∷ []
cells_after (push1 b) n a u s t = symbol a u s ∷ symbol b s n ∷ above (n + 1) t ∷ []
cells_after (push2 b) n a u s t = symbol a u s ∷ symbol b t n ∷ above (n + 1) t ∷ []
cells_after copy n a u s t = symbol a u s ∷ above n t ∷ symbol a u s ∷ above (n + 2) (n + 1) ∷ []
cells_after pop1 n a u s t = above s t ∷ []
cells_after pop2 n a u s t = []
cells_after collapse1 n a u s t = above u t ∷ []
cells_after collapse2 n a u s t = []

-- the root cell that the operation leaves
unfoldable pub root_after : Operation → ℕ → ℕ → ℕ → ℕ
root_after (rewrite b) n u t = n + 1
root_after (push1 b) n u t = n + 2
root_after (push2 b) n u t = n + 2
root_after copy n u t = n + 3
root_after pop1 n u t = n
root_after pop2 n u t = t
root_after collapse1 n u t = n
root_after collapse2 n u t = u
