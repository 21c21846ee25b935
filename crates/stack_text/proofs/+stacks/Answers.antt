-- `stack_text::put_annotation`, `put_stacks` and `put_symbols`, which call each other, meet their contracts.
-- Assumes nothing.
use mathlib.Core.Path.{sym, ◌∙◌}
use native.Mathlib.Omega.{arith}
use Rattle.walks.specs.Cell.{order1, order2}
use Rattle.services.specs.Listing.{ascii}
use Rattle.services.specs.Brackets.{symbols_text, stacks_text}
use Rattle.stack_text.specs.Cells.{stack_in}
use Rattle.bounded_text.specs.Page.Laws.{prints_then, prints_on, prints_stop, prints_same, prints_none}
use Rattle.stack_text.specs.Cells.Laws.{annotation1, annotation2, order2_is, above_refers, stacks_are, stacks_none, symbol_refers, symbols_are, symbols_none}
use Rattle.stack_text.proofs.+stacks.Goals as goal

pub put_annotation-returns-in_err-symbols : goal.put_annotation-returns-in_err-symbols
unfolding ascii
put_annotation-returns-in_err-symbols t c =
    prints_same (sym (annotation1 c.requires.0 c.requires.1 (sym c.if-order_at-eq1.true ∙ c.order_at.ensures)))
    (prints_stop _ c.from_residual.ensures (prints_on (symbols_text (order1 (stack_in _ _ _))) c.in_err-symbols.ensures))

pub put_annotation-returns-in_err-close : goal.put_annotation-returns-in_err-close
unfolding ascii
put_annotation-returns-in_err-close t c =
    prints_same (sym (annotation1 c.requires.0 c.requires.1 (sym c.if-order_at-eq1.true ∙ c.order_at.ensures)))
    (prints_stop _ c.from_residual-in_err-close.ensures (prints_then c.in_ok-symbols.ensures c.in_err-close.ensures))

pub put_annotation-returns-then-order_at-eq1 : goal.put_annotation-returns-then-order_at-eq1
unfolding ascii
put_annotation-returns-then-order_at-eq1 t c =
    prints_same (sym (annotation1 c.requires.0 c.requires.1 (sym c.if-order_at-eq1.true ∙ c.order_at.ensures)))
    (prints_then (prints_then c.in_ok-symbols.ensures c.in_ok-close.ensures) c.put_bytes-then-order_at-eq1.ensures)

pub put_annotation-returns-in_err-stacks : goal.put_annotation-returns-in_err-stacks
unfolding ascii
put_annotation-returns-in_err-stacks t c =
    prints_same (sym (annotation2 c.requires.0 c.requires.1 c.order_at.ensures c.if-order_at-eq1.false))
    (prints_stop _ c.from_residual-in_err-stacks.ensures (prints_on (stacks_text (order2 (stack_in _ _ _))) c.in_err-stacks.ensures))

pub put_annotation-put_stacks-requires : goal.put_annotation-put_stacks-requires
put_annotation-put_stacks-requires t c =
    (omega arith, (c.requires.0, c.requires.1, order2_is c.requires.0 c.requires.1 c.order_at.ensures c.if-order_at-eq1.false))

pub put_annotation-returns-in_err-close-2 : goal.put_annotation-returns-in_err-close-2
unfolding ascii
put_annotation-returns-in_err-close-2 t c =
    prints_same (sym (annotation2 c.requires.0 c.requires.1 c.order_at.ensures c.if-order_at-eq1.false))
    (prints_stop _ c.from_residual-in_err-close-2.ensures (prints_then c.in_ok-stacks.ensures c.in_err-close-2.ensures))

pub put_annotation-returns : goal.put_annotation-returns
unfolding ascii
put_annotation-returns t c =
    prints_same (sym (annotation2 c.requires.0 c.requires.1 c.order_at.ensures c.if-order_at-eq1.false))
    (prints_then (prints_then c.in_ok-stacks.ensures c.in_ok-close-2.ensures) c.put_bytes-3.ensures)

pub put_stacks-returns-in_default : goal.put_stacks-returns-in_default
put_stacks-returns-in_default t c =
    prints_same (stacks_none c.requires.0 c.requires.1 _ c.cell_at-cell.ensures c.in_default.not-Above c.requires.2)
    prints_none

pub put_stacks-returns-in_err-symbols : goal.put_stacks-returns-in_err-symbols
unfolding ascii
put_stacks-returns-in_err-symbols t c =
    prints_same (sym (stacks_are c.requires.0 c.requires.1 _ c.cell_at-cell.ensures c.in-Above.is))
    (prints_stop _ c.from_residual.ensures (prints_on _ (prints_on (symbols_text (order1 (stack_in _ _ _))) c.in_err-symbols.ensures)))

pub put_stacks-put_symbols-requires : goal.put_stacks-put_symbols-requires
put_stacks-put_symbols-requires t c =
    let r = above_refers c.requires.0 c.requires.1 _ c.cell_at-cell.ensures c.in-Above.is in
    (omega arith, (c.requires.0, omega arith, r.2))

pub put_stacks-returns-in_err-close : goal.put_stacks-returns-in_err-close
unfolding ascii
put_stacks-returns-in_err-close t c =
    prints_same (sym (stacks_are c.requires.0 c.requires.1 _ c.cell_at-cell.ensures c.in-Above.is))
    (prints_stop _ c.from_residual-in_err-close.ensures (prints_on _ (prints_then c.in_ok-symbols.ensures c.in_err-close.ensures)))

pub put_stacks-returns-in_err-next : goal.put_stacks-returns-in_err-next
unfolding ascii
put_stacks-returns-in_err-next t c =
    prints_same (sym (stacks_are c.requires.0 c.requires.1 _ c.cell_at-cell.ensures c.in-Above.is))
    (prints_stop _ c.from_residual-in_err-next.ensures (prints_then (prints_then c.in_ok-symbols.ensures c.in_ok-close.ensures) c.in_err-next.ensures))

pub put_stacks-put_stacks-requires : goal.put_stacks-put_stacks-requires
put_stacks-put_stacks-requires t c =
    let r = above_refers c.requires.0 c.requires.1 _ c.cell_at-cell.ensures c.in-Above.is in
    (omega (arith, r.1, c.decreases), (c.requires.0, omega (arith, r.1, c.requires.1), r.3))

pub put_stacks-returns : goal.put_stacks-returns
unfolding ascii
put_stacks-returns t c =
    prints_same (sym (stacks_are c.requires.0 c.requires.1 _ c.cell_at-cell.ensures c.in-Above.is))
    (prints_then (prints_then (prints_then c.in_ok-symbols.ensures c.in_ok-close.ensures) c.in_ok-next.ensures) c.put_stacks.ensures)

pub put_symbols-returns-in_default : goal.put_symbols-returns-in_default
put_symbols-returns-in_default t c =
    prints_same (symbols_none c.requires.0 c.requires.1 _ c.cell_at-cell.ensures c.in_default.not-Symbol c.requires.2)
    prints_none

pub put_symbols-returns-in_err-order : goal.put_symbols-returns-in_err-order
put_symbols-returns-in_err-order t c =
    prints_same (sym (symbols_are c.requires.0 c.requires.1 _ c.cell_at-cell.ensures c.in-Symbol.is))
    (prints_stop _ c.from_residual.ensures (prints_on _ (prints_on _ c.in_err-order.ensures)))

pub put_symbols-put_annotation-requires : goal.put_symbols-put_annotation-requires
put_symbols-put_annotation-requires t c =
    let r = symbol_refers c.requires.0 c.requires.1 _ c.cell_at-cell.ensures c.in-Symbol.is in
    (omega arith, (c.requires.0, omega arith))

pub put_symbols-returns-in_err-after : goal.put_symbols-returns-in_err-after
put_symbols-returns-in_err-after t c =
    prints_same (sym (symbols_are c.requires.0 c.requires.1 _ c.cell_at-cell.ensures c.in-Symbol.is))
    (prints_stop _ c.from_residual-in_err-after.ensures (prints_on _ (prints_then c.in_ok-order.ensures c.in_err-after.ensures)))

pub put_symbols-put_between-requires : goal.put_symbols-put_between-requires
put_symbols-put_between-requires t c =
    let r = symbol_refers c.requires.0 c.requires.1 _ c.cell_at-cell.ensures c.in-Symbol.is in
    (c.requires.0, omega arith, r.2)

pub put_symbols-returns-in_err-next : goal.put_symbols-returns-in_err-next
put_symbols-returns-in_err-next t c =
    prints_same (sym (symbols_are c.requires.0 c.requires.1 _ c.cell_at-cell.ensures c.in-Symbol.is))
    (prints_stop _ c.from_residual-in_err-next.ensures (prints_then (prints_then c.in_ok-order.ensures c.in_ok-after.ensures) c.in_err-next.ensures))

pub put_symbols-put_symbols-requires : goal.put_symbols-put_symbols-requires
put_symbols-put_symbols-requires t c =
    let r = symbol_refers c.requires.0 c.requires.1 _ c.cell_at-cell.ensures c.in-Symbol.is in
    (omega (arith, r.1, c.decreases), (c.requires.0, omega (arith, r.1, c.requires.1), r.2))

pub put_symbols-returns : goal.put_symbols-returns
put_symbols-returns t c =
    prints_same (sym (symbols_are c.requires.0 c.requires.1 _ c.cell_at-cell.ensures c.in-Symbol.is))
    (prints_then (prints_then (prints_then c.in_ok-order.ensures c.in_ok-after.ensures) c.in_ok-next.ensures) c.put_symbols.ensures)
