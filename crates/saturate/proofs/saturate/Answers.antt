-- `saturate::saturate` meets its contract.
-- Assumes nothing.
use Rattle.saturate.specs.Service.Laws.{service_kept}
use Rattle.saturate.specs.Service.Demands.{meets}
use borrow.Author.Rules.{rules}
use Rattle.saturate.proofs.saturate.Goals as goal

pub returns-in-Ok-clause-demand1 : goal.returns-in-Ok-clause-demand1
returns-in-Ok-clause-demand1 c = (meets _ _ (service_kept _ c.in-Ok.ensures c.zero.auto.words c.zero-2.auto.words)).1.0

pub returns-in-Ok-clause-demand2 : goal.returns-in-Ok-clause-demand2
returns-in-Ok-clause-demand2 c = (meets _ _ (service_kept _ c.in-Ok.ensures c.zero.auto.words c.zero-2.auto.words)).1.1.0

pub returns-in-Ok-clause-counted : goal.returns-in-Ok-clause-counted
returns-in-Ok-clause-counted c = (meets _ _ (service_kept _ c.in-Ok.ensures c.zero.auto.words c.zero-2.auto.words)).1.1.1

pub returns-in-Err-clause-demand1 : goal.returns-in-Err-clause-demand1
returns-in-Err-clause-demand1 c = let h = (meets _ _ (service_kept _ c.in-Err.ensures c.zero.auto.words c.zero-2.auto.words)).1.0 in search (rules, h)

pub returns-in-Err-clause-demand2 : goal.returns-in-Err-clause-demand2
returns-in-Err-clause-demand2 c = let h = (meets _ _ (service_kept _ c.in-Err.ensures c.zero.auto.words c.zero-2.auto.words)).1.1.0 in search (rules, h)
