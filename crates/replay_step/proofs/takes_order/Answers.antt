-- `replay_step::takes_order` meets its contract.
-- Assumes nothing.
use mathlib.Core.Path.{ap, sym}
use Rattle.std.proofs.Math.Logic.{⊎_elim}
use Rattle.case_records.specs.declared.Operation.{Operation}
use Rattle.case_records.specs.Values.{the_operation}
use Rattle.replay_step.specs.Top.{takes_order}
use Rattle.replay_step.proofs.takes_order.Goals as goal

pub returns-in-Rewrite : goal.returns-in-Rewrite
unfolding takes_order
returns-in-Rewrite c =
    let by = λ (o : Operation). takes_order (the_operation o) c.args.order in
    ⊎_elim (λ e. ap by (sym e.1))
    (λ f. ⊎_elim (λ e. ap by (sym e.1))
    (λ g. ⊎_elim (λ e. ap by (sym e.1))
    (λ h. ⊎_elim (λ e. ap by (sym e)) (λ k. ⊎_elim (λ e. ap by (sym e)) (λ e. ap by (sym e)) k) h) g) f) c.in-Rewrite.is

pub returns-in-Collapse1 : goal.returns-in-Collapse1
unfolding takes_order
returns-in-Collapse1 c = ap (λ (o : Operation). takes_order (the_operation o) c.args.order) (sym c.in-Collapse1.is)

pub returns-in-Collapse2 : goal.returns-in-Collapse2
unfolding takes_order
returns-in-Collapse2 c = ap (λ (o : Operation). takes_order (the_operation o) c.args.order) (sym c.in-Collapse2.is)
