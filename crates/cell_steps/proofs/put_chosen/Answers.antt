-- `cell_steps::put_chosen` meets its contract.
-- Assumes nothing.
use Prim.Native.Nat.{ℕ}
use Rattle.std.proofs.Math.Logic.{⊎_elim}
use mathlib.Core.Path.{◌≡◌, refl, ap}
use Rattle.stacks.specs.Stack.{new_cells}
use Rattle.case_records.specs.declared.Operation.{Operation}
use Rattle.case_records.specs.Values.{the_operation}
use Rattle.cell_steps.specs.Steps.{put_from, with_chosen, step_chosen}
use Rattle.cell_steps.specs.Steps.Laws.{put_one, chosen_by}
use borrow.Author.Rules.{rules}
use Rattle.cell_steps.proofs.put_chosen.Goals as goal

pub choose_top-requires : goal.choose_top-requires
unfolding new_cells
choose_top-requires c =
    let e : new_cells (the_operation c.args.op) ≡ 2 = ap (λ (o : Operation). new_cells (the_operation o)) c.in-Rewrite.is in
    search rules

pub choose_pushed-requires : goal.choose_pushed-requires
unfolding new_cells
choose_pushed-requires c =
    let count : Operation → ℕ = λ o. new_cells (the_operation o) in
    let e : new_cells (the_operation c.args.op) ≡ 3 = ⊎_elim (λ e. ap count e.1) (λ e. ap count e.1) c.in-Push1.is in
    search rules

pub choose_copied-requires : goal.choose_copied-requires
unfolding new_cells
choose_copied-requires c =
    let e : new_cells (the_operation c.args.op) ≡ 4 = ap (λ (o : Operation). new_cells (the_operation o)) c.in-Copy.is in
    search rules

pub put_choice-requires : goal.put_choice-requires
unfolding new_cells
put_choice-requires c =
    let count : Operation → ℕ = λ o. new_cells (the_operation o) in
    let e : new_cells (the_operation c.args.op) ≡ 1 = ⊎_elim (λ e. ap count e) (λ e. ap count e) c.in-Pop1.is in
    search rules

pub returns-in-Rewrite : goal.returns-in-Rewrite
unfolding step_chosen
returns-in-Rewrite c = chosen_by _ _ _ _ _ _ _ _ c.in-Rewrite.is c.choose_top.ensures

pub returns-in-Push1 : goal.returns-in-Push1
unfolding step_chosen
returns-in-Push1 c =
    let put = c.choose_pushed.ensures in
    ⊎_elim (λ e. chosen_by _ _ _ _ _ _ _ _ e.1 put) (λ e. chosen_by _ _ _ _ _ _ _ _ e.1 put) c.in-Push1.is

pub returns-in-Pop1 : goal.returns-in-Pop1
unfolding step_chosen with_chosen
returns-in-Pop1 c =
    let put = put_one with_chosen _ _ _ c.put_choice.ensures in
    ⊎_elim (λ e. chosen_by _ _ _ _ _ _ _ _ e put) (λ e. chosen_by _ _ _ _ _ _ _ _ e put) c.in-Pop1.is

pub returns-in-Pop2 : goal.returns-in-Pop2
unfolding step_chosen put_from
returns-in-Pop2 c = ⊎_elim (λ e. chosen_by _ _ _ _ _ _ _ _ e refl) (λ e. chosen_by _ _ _ _ _ _ _ _ e refl) c.in-Pop2.is
