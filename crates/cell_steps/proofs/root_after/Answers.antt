-- `cell_steps::root_after` meets its contract.
-- Assumes nothing.
use Prim.Native.Nat.{ℕ}
use Rattle.std.proofs.Math.Logic.{⊎_elim}
use mathlib.Core.Path.{ap, sym}
use Rattle.walks.specs.Cell.{root_after}
use Rattle.case_records.specs.declared.Operation.{Operation}
use Rattle.case_records.specs.Values.{the_operation}
use Rattle.cell_steps.proofs.root_after.Goals as goal

pub returns-in-Rewrite : goal.returns-in-Rewrite
unfolding root_after
returns-in-Rewrite c =
    let a = c.args in
    ap (λ (o : Operation). root_after (the_operation o) a.n a.x.annotation a.x.below) (sym c.in-Rewrite.is)

pub returns-in-Push1 : goal.returns-in-Push1
unfolding root_after
returns-in-Push1 c =
    let a = c.args in
    let after : Operation → ℕ = λ o. root_after (the_operation o) a.n a.x.annotation a.x.below in
    ⊎_elim (λ e. ap after (sym e.1)) (λ e. ap after (sym e.1)) c.in-Push1.is

pub returns-in-Copy : goal.returns-in-Copy
unfolding root_after
returns-in-Copy c =
    let a = c.args in
    ap (λ (o : Operation). root_after (the_operation o) a.n a.x.annotation a.x.below) (sym c.in-Copy.is)

pub returns-in-Pop1 : goal.returns-in-Pop1
unfolding root_after
returns-in-Pop1 c =
    let a = c.args in
    let after : Operation → ℕ = λ o. root_after (the_operation o) a.n a.x.annotation a.x.below in
    ⊎_elim (λ e. ap after (sym e)) (λ e. ap after (sym e)) c.in-Pop1.is

pub returns-in-Pop2 : goal.returns-in-Pop2
unfolding root_after
returns-in-Pop2 c =
    let a = c.args in
    ap (λ (o : Operation). root_after (the_operation o) a.n a.x.annotation a.x.below) (sym c.in-Pop2.is)

pub returns-in-Collapse2 : goal.returns-in-Collapse2
unfolding root_after
returns-in-Collapse2 c =
    let a = c.args in
    ap (λ (o : Operation). root_after (the_operation o) a.n a.x.annotation a.x.below) (sym c.in-Collapse2.is)
