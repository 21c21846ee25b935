-- `results::by_entries` meets its contract.
-- Assumes nothing.
use mathlib.Core.Path.{refl, ◌∙◌}
use Rattle.results.specs.Entries.Laws.{entries_past, entries_more, entries_all}
use Rattle.results.proofs.by_entries.Goals as goal

pub loop-i-init : goal.loop-i-init
loop-i-init c =
    let (within, past) = entries_past c.args.by.now.table _ _ _ _ _ _ _ _ _ _ c.requires.0.number c.requires.1 in
    (past, refl)

pub loop-i-preserved : goal.loop-i-preserved
loop-i-preserved c =
    let done = c.by_entry-k in
    let long = done.auto.out in
    (entries_more c.args.by.now.table _ _ _ _ _ _ _ _ _ _ _ _ _ _ c.loop-i.invariant.0 c.loop-i-test.true done.ensures long, long ∙ c.loop-i.invariant.1)

pub returns : goal.returns
returns c = entries_all c.args.by.now.table _ _ _ _ _ _ _ _ _ _ _ _ c.loop-i.invariant.0 c.loop-i-test.false
