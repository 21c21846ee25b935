-- `case_records::move_before` meets its contract.
-- Assumes nothing.
use mathlib.Core.Path.{◌∙◌}
use Rattle.files.specs.Case.{move_key}
use Rattle.case_records.specs.Keys.Laws.{less_five}
use Rattle.case_records.proofs.move_before.Goals as goal

pub returns : goal.returns
unfolding move_key
returns c = c.lt.ensures ∙ less_five _ _ _ _ _ _ _ _ _ _
