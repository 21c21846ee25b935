-- `cell_steps::new_cell` meets its contract.
-- Assumes nothing.
use Rattle.std.proofs.Math.Logic.{⊎_elim}
use mathlib.Core.Path.{◌≡◌, refl, ap}
use Rattle.stacks.specs.Stack.{new_cells}
use Rattle.walks.specs.Cell.{cells_after}
use Rattle.case_records.specs.declared.Operation.{Operation}
use Rattle.case_records.specs.Values.{the_operation}
use Rattle.cell_memory.specs.Memory.{cell_of}
use Rattle.cell_steps.specs.Steps.{symbol_of}
use Rattle.cell_steps.specs.Steps.Laws.{cell_by, cell_one, cell_none}
use borrow.Author.Rules.{rules}
use Rattle.cell_steps.proofs.new_cell.Goals as goal

pub overflow_cast-rewritten : goal.overflow_cast-rewritten
unfolding symbol_of
overflow_cast-rewritten c =
    let e : symbol_of (the_operation c.args.op) ≡ c.in-Rewrite.b = ap (λ (o : Operation). symbol_of (the_operation o)) c.in-Rewrite.is in
    search rules

pub topping-requires : goal.topping-requires
unfolding new_cells
topping-requires c =
    let e : new_cells (the_operation c.args.op) ≡ 2 = ap (λ (o : Operation). new_cells (the_operation o)) c.in-Rewrite.is in
    search rules

pub overflow_cast-b : goal.overflow_cast-b
unfolding symbol_of
overflow_cast-b c =
    let e : symbol_of (the_operation c.args.op) ≡ c.in-Push1.b = ap (λ (o : Operation). symbol_of (the_operation o)) c.in-Push1.is in
    search rules

pub pushed-requires : goal.pushed-requires
unfolding new_cells
pushed-requires c =
    let e : new_cells (the_operation c.args.op) ≡ 3 = ap (λ (o : Operation). new_cells (the_operation o)) c.in-Push1.is in
    search rules

pub overflow_cast-b-in-Push2 : goal.overflow_cast-b-in-Push2
unfolding symbol_of
overflow_cast-b-in-Push2 c =
    let e : symbol_of (the_operation c.args.op) ≡ c.in-Push2.b = ap (λ (o : Operation). symbol_of (the_operation o)) c.in-Push2.is in
    search rules

pub pushed-requires-in-Push2 : goal.pushed-requires-in-Push2
unfolding new_cells
pushed-requires-in-Push2 c =
    let e : new_cells (the_operation c.args.op) ≡ 3 = ap (λ (o : Operation). new_cells (the_operation o)) c.in-Push2.is in
    search rules

pub copied-requires : goal.copied-requires
unfolding new_cells
copied-requires c =
    let e : new_cells (the_operation c.args.op) ≡ 4 = ap (λ (o : Operation). new_cells (the_operation o)) c.in-Copy.is in
    search rules

pub returns-in-Rewrite : goal.returns-in-Rewrite
unfolding cells_after
returns-in-Rewrite c = cell_by _ _ _ _ _ _ c.in-Rewrite.is c.topping.ensures

pub returns-in-Push1 : goal.returns-in-Push1
unfolding cells_after
returns-in-Push1 c = cell_by _ _ _ _ _ _ c.in-Push1.is c.pushed.ensures

pub returns-in-Push2 : goal.returns-in-Push2
unfolding cells_after
returns-in-Push2 c = cell_by _ _ _ _ _ _ c.in-Push2.is c.pushed-in-Push2.ensures

pub returns-in-Pop1 : goal.returns-in-Pop1
unfolding cells_after cell_of
returns-in-Pop1 c = cell_one _ _ _ _ _ _ _ c.in-Pop1.is refl c.requires.0

pub returns-in-Collapse1 : goal.returns-in-Collapse1
unfolding cells_after cell_of
returns-in-Collapse1 c = cell_one _ _ _ _ _ _ _ c.in-Collapse1.is refl c.requires.0

pub returns-in-Pop2 : goal.returns-in-Pop2
unfolding cells_after cell_of
returns-in-Pop2 c = ⊎_elim (λ e. cell_none _ _ _ _ _ _ e refl) (λ e. cell_none _ _ _ _ _ _ e refl) c.in-Pop2.is
