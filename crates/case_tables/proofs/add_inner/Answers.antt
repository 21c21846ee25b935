-- `case_tables::add_inner` meets its contract.
-- Assumes nothing.
use Rattle.case_tables.specs.Decoded.Laws.{more_entry, more_inner}
use Rattle.case_tables.proofs.add_inner.Goals as goal

pub returns-then-e-h : goal.returns-then-e-h
returns-then-e-h c = more_entry _ _ _ _ c.if-e-h.true

pub returns : goal.returns
returns c = more_inner _ _ _ _ _ _ c.if-e-h.false c.insert_edge.ensures
