-- `brackets::brackets` meets its contract.
-- Assumes nothing.
use Rattle.brackets.specs.Service.Laws.{service_kept, meets}
use borrow.Author.Rules.{rules}
use Rattle.brackets.proofs.brackets.Goals as goal

pub returns-in-Ok-clause-demand1 : goal.returns-in-Ok-clause-demand1
returns-in-Ok-clause-demand1 c = (meets _ (service_kept _ _ _ c.in-Ok.ensures c.zero.auto.words)).1.0

pub returns-in-Ok-clause-exactly : goal.returns-in-Ok-clause-exactly
returns-in-Ok-clause-exactly c = (meets _ (service_kept _ _ _ c.in-Ok.ensures c.zero.auto.words)).1.1

pub returns-in-Err-clause-demand1 : goal.returns-in-Err-clause-demand1
returns-in-Err-clause-demand1 c = let h = (meets _ (service_kept _ _ _ c.in-Err.ensures c.zero.auto.words)).1.0 in search (rules, h)

pub returns-in-Err-clause-exactly : goal.returns-in-Err-clause-exactly
returns-in-Err-clause-exactly c = let h = (meets _ (service_kept _ _ _ c.in-Err.ensures c.zero.auto.words)).1.1 in search (rules, h)
