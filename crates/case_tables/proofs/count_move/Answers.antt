-- `case_tables::count_move` meets its contract.
-- Assumes nothing.
use mathlib.Core.Path.{ap, ◌∙◌}
use native.Mathlib.Omega.{arith}
use Rattle.tables.specs.Counts.{raised}
use Rattle.case_tables.specs.Counting.Laws.{counted_inner, counted_past, counted_there}
use Rattle.case_tables.proofs.count_move.Goals as goal

pub returns-then-k-n : goal.returns-then-k-n
returns-then-k-n c =
    let e = c.in-Some.ensures in
    c.raise_count.ensures ∙ ap (raised c.args.entries.now) e.1 ∙ counted_there _ _ _ _ e.0 (omega arith)

pub returns-else-k-n : goal.returns-else-k-n
returns-else-k-n c = let e = c.in-Some.ensures in counted_past _ _ _ _ e.0 (omega arith)

pub returns-in_default : goal.returns-in_default
returns-in_default c = counted_inner _ _ _ _ (omega (arith, c.in_default.ensures))
