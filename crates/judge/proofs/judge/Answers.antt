-- `judge::judge` meets its contract.
-- Assumes nothing.
use Rattle.judge.specs.Service.Left.{service_kept}
use Rattle.judge.specs.Service.Demands.{meets}
use borrow.Author.Rules.{rules}
use Rattle.judge.proofs.judge.Goals as goal

pub returns-in-Ok-clause-demand1 : goal.returns-in-Ok-clause-demand1
returns-in-Ok-clause-demand1 c =
    let t = c.zero_tables.auto in
    (meets _ _ (service_kept _ _ _ c.in-Ok.ensures t.moves t.entries c.zero.auto.words)).1.0

pub returns-in-Ok-clause-demand2 : goal.returns-in-Ok-clause-demand2
returns-in-Ok-clause-demand2 c =
    let t = c.zero_tables.auto in
    (meets _ _ (service_kept _ _ _ c.in-Ok.ensures t.moves t.entries c.zero.auto.words)).1.1.0

pub returns-in-Ok-clause-size : goal.returns-in-Ok-clause-size
returns-in-Ok-clause-size c =
    let t = c.zero_tables.auto in
    (meets _ _ (service_kept _ _ _ c.in-Ok.ensures t.moves t.entries c.zero.auto.words)).1.1.1

pub returns-in-Err-clause-demand1 : goal.returns-in-Err-clause-demand1
returns-in-Err-clause-demand1 c =
    let t = c.zero_tables.auto in
    let h = (meets _ _ (service_kept _ _ _ c.in-Err.ensures t.moves t.entries c.zero.auto.words)).1.0 in
    search (rules, h)

pub returns-in-Err-clause-demand2 : goal.returns-in-Err-clause-demand2
returns-in-Err-clause-demand2 c =
    let t = c.zero_tables.auto in
    let h = (meets _ _ (service_kept _ _ _ c.in-Err.ensures t.moves t.entries c.zero.auto.words)).1.1.0 in
    search (rules, h)

pub returns-in-Err-clause-size : goal.returns-in-Err-clause-size
returns-in-Err-clause-size c =
    let t = c.zero_tables.auto in
    let h = (meets _ _ (service_kept _ _ _ c.in-Err.ensures t.moves t.entries c.zero.auto.words)).1.1.1 in
    search (rules, h)
