-- `case_records::code_of` meets its contract.
-- Assumes nothing.
use mathlib.Core.Path.{ap, sym}
use Rattle.case_records.specs.declared.Operation.{Operation}
use Rattle.case_records.specs.Values.{the_operation, code_of}
use Rattle.case_records.proofs.code_of.Goals as goal

pub returns-in-Rewrite : goal.returns-in-Rewrite
unfolding code_of
returns-in-Rewrite c = ap (λ (o : Operation). code_of (the_operation o)) (sym c.in-Rewrite.is)

pub returns-in-Push1 : goal.returns-in-Push1
unfolding code_of
returns-in-Push1 c = ap (λ (o : Operation). code_of (the_operation o)) (sym c.in-Push1.is)

pub returns-in-Push2 : goal.returns-in-Push2
unfolding code_of
returns-in-Push2 c = ap (λ (o : Operation). code_of (the_operation o)) (sym c.in-Push2.is)

pub returns-in-Copy : goal.returns-in-Copy
unfolding code_of
returns-in-Copy c = ap (λ (o : Operation). code_of (the_operation o)) (sym c.in-Copy.is)

pub returns-in-Pop1 : goal.returns-in-Pop1
unfolding code_of
returns-in-Pop1 c = ap (λ (o : Operation). code_of (the_operation o)) (sym c.in-Pop1.is)

pub returns-in-Pop2 : goal.returns-in-Pop2
unfolding code_of
returns-in-Pop2 c = ap (λ (o : Operation). code_of (the_operation o)) (sym c.in-Pop2.is)

pub returns-in-Collapse1 : goal.returns-in-Collapse1
unfolding code_of
returns-in-Collapse1 c = ap (λ (o : Operation). code_of (the_operation o)) (sym c.in-Collapse1.is)

pub returns-in-Collapse2 : goal.returns-in-Collapse2
unfolding code_of
returns-in-Collapse2 c = ap (λ (o : Operation). code_of (the_operation o)) (sym c.in-Collapse2.is)
