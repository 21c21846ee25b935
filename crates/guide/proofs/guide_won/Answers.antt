-- `guide::guide_won` meets its contract.
-- Assumes nothing.
use Rattle.guide.specs.Service.Left.{service_kept}
use borrow.Author.Rules.{rules}
use Rattle.guide.proofs.guide_won.Goals as goal

pub returns-in-Err-clause-trace_after : goal.returns-in-Err-clause-trace_after
returns-in-Err-clause-trace_after c =
    let t = c.zero_tables.auto in
    let h = service_kept _ _ _ _ c.in-Err.ensures.trace_after t.moves t.entries c.zero.auto.words c.zero-2.auto.words in
    search (rules, h)
