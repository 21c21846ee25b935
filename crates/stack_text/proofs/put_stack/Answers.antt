-- `stack_text::put_stack` meets its contract.
-- Assumes nothing.
use Rattle.services.specs.Listing.{ascii}
use Rattle.walks.specs.Cell.{order2}
use Rattle.services.specs.Brackets.{stacks_text, stack_text}
use Rattle.stack_text.specs.Cells.{stack_in}
use Rattle.bounded_text.specs.Page.Laws.{prints_then, prints_on, prints_stop}
use Rattle.stack_text.proofs.put_stack.Goals as goal

pub returns-in_err-stacks : goal.returns-in_err-stacks
unfolding ascii stack_text
returns-in_err-stacks c =
    prints_stop _ c.from_residual.ensures (prints_on (stacks_text (order2 (stack_in _ _ _))) c.in_err-stacks.ensures)

pub returns-in_err-close : goal.returns-in_err-close
unfolding ascii stack_text
returns-in_err-close c = prints_stop _ c.from_residual-in_err-close.ensures (prints_then c.in_ok-stacks.ensures c.in_err-close.ensures)

pub returns : goal.returns
unfolding ascii stack_text
returns c = prints_then (prints_then c.in_ok-stacks.ensures c.in_ok-close.ensures) c.put_bytes-2.ensures
