-- The top of a stack in cells, and whether a rule applies to it.
-- Assumes nothing.
pub mod Laws
use Rattle.std.specs.Prelude.{ℕ, Some, None, Bool, true, ◌&&◌, List, eqb}
use Rattle.std.specs.Prelude as std
use Rattle.std.proofs.Math.Option.{Option, none, some}
use Rattle.stacks.specs.Stack.{Operation, rewrite, push1, push2, copy, pop1, pop2, collapse1, collapse2}
use Rattle.stacks.specs.System.{Rule}
use Rattle.walks.specs.Cell.{Cell, empty1, symbol, empty2, above}
use Rattle.cell_steps.specs.declared.Top.{Top}
use Rattle.cell_steps.specs.Steps.{cell_number}

abbrev pub found_top : std.Option Top → Option Top
found_top None = none
found_top (Some x) = some x

-- the top where this order-1 cell stands on order-2 cell t
unfoldable pub top_on : ℕ → Cell → Option Top
top_on t empty1 = none
top_on t (symbol a u s) = some (record { symbol = a; annotation = u; rest = s; below = t })
top_on t empty2 = none
top_on t (above x y) = none

-- the top where this cell is the root
unfoldable pub top_of : List Cell → Cell → Option Top
top_of cells empty1 = none
top_of cells (symbol a u s) = none
top_of cells empty2 = none
top_of cells (above c t) = top_on t (cell_number cells c)

-- the top of the stack that a cell stands for, or none where it is empty or has an empty top order-1 stack
unfoldable pub top_in : List Cell → ℕ → Option Top
top_in cells root = top_of cells (cell_number cells root)

-- "u must have order 1", "u must have order 2": the operation takes an annotation of this order.
unfoldable pub takes_order : Operation → ℕ → Bool
takes_order (rewrite b) k = true
takes_order (push1 b) k = true
takes_order (push2 b) k = true
takes_order copy k = true
takes_order pop1 k = true
takes_order pop2 k = true
takes_order collapse1 k = eqb k 1
takes_order collapse2 k = eqb k 2

-- The rule applies at control p to top symbol a, whose annotation has order k, and leaves a stack.
unfoldable pub rule_fits : Rule → ℕ → ℕ → ℕ → Bool
rule_fits ρ p a k = eqb p ρ.control && eqb a ρ.symbol && takes_order ρ.operation k
