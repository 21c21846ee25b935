-- `case_records::edge_before` meets its contract.
-- Assumes nothing.
use mathlib.Core.Path.{◌∙◌}
use Rattle.case_records.specs.Keys.{edge_order}
use Rattle.case_records.specs.Keys.Laws.{less_three}
use Rattle.case_records.proofs.edge_before.Goals as goal

pub returns : goal.returns
unfolding edge_order
returns c = rw (← c.order_byte.ensures, ← c.order_byte-2.ensures) (c.lt.ensures ∙ less_three _ _ _ _ _ _)
