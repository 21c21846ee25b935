-- `case_records::inner2` meets its contract.
-- Assumes nothing.
use mathlib.Core.Path.{sym, ◌∙◌}
use Rattle.case_records.specs.Bounds.Laws.{inner2_parts}
use Rattle.case_records.proofs.inner2.Goals as goal

pub returns-then-none_below : goal.returns-then-none_below
returns-then-none_below c = rw (inner2_parts, sym c.none_below.ensures ∙ c.if-none_below.true) c.existing2.ensures

pub returns-else-none_below : goal.returns-else-none_below
returns-else-none_below c = c.if-none_below.false ∙ rw (inner2_parts, sym c.none_below.ensures ∙ c.if-none_below.false)
