-- `results::by_entry` meets its contract.
-- Assumes nothing.
use Rattle.results.specs.Entries.Laws.{entry_other, entry_premise}
use Rattle.results.proofs.by_entry.Goals as goal

pub returns-then-e-q : goal.returns-then-e-q
returns-then-e-q c = entry_other c.args.by.now.table _ _ _ _ _ _ _ _ _ _ _ c.entry_at-e.ensures c.requires.0.number c.if-e-q.true

pub returns : goal.returns
returns c =
    entry_premise c.args.by.now.table _ _ _ _ _ _ _ _ _ _ _ c.entry_at-e.ensures _ _ _ c.if-e-q.false c.entry_result-x.ensures c.offer.ensures
