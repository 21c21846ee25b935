-- `start_file::check_start` meets its contract.
-- Assumes nothing.
use mathlib.Core.Path.{sym, ◌∙◌}
use Rattle.start_file.specs.Checks.Laws.{by_place, by_starts, by_cells, by_none_lem}
use Rattle.start_file.proofs.check_start.Goals as goal

pub returns-then-not-start_placed : goal.returns-then-not-start_placed
returns-then-not-start_placed c = by_place _ _ _ (sym c.start_placed.ensures ∙ c.if-not-start_placed.true)

pub returns-then-not-file_starts_right : goal.returns-then-not-file_starts_right
returns-then-not-file_starts_right c =
    by_starts _ _ _ (sym c.start_placed.ensures ∙ c.if-not-start_placed.false)
    (sym c.file_starts_right.ensures ∙ c.if-not-file_starts_right.true)

pub returns-then-not-file_cells_right : goal.returns-then-not-file_cells_right
returns-then-not-file_cells_right c =
    by_cells _ _ _ (sym c.start_placed.ensures ∙ c.if-not-start_placed.false)
    (sym c.file_starts_right.ensures ∙ c.if-not-file_starts_right.false)
    (sym c.file_cells_right.ensures ∙ c.if-not-file_cells_right.true)

pub returns : goal.returns
returns c =
    by_none_lem _ _ _ (sym c.start_placed.ensures ∙ c.if-not-start_placed.false)
    (sym c.file_starts_right.ensures ∙ c.if-not-file_starts_right.false)
    (sym c.file_cells_right.ensures ∙ c.if-not-file_cells_right.false)
