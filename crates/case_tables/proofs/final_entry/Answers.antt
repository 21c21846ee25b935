-- `case_tables::final_entry` meets its contract.
-- Assumes nothing.
use mathlib.Core.Path.{◌∙◌}
use Rattle.case_tables.specs.Decoded.Laws.{final_yes, final_other, final_inner}
use Rattle.case_tables.proofs.final_entry.Goals.{else-e-h-via-then-e-h+else-e-eq-FINAL_MARK, else-e-h-via-else-e-h}
use Rattle.case_tables.proofs.final_entry.Goals as goal

pub returns-then-e-eq-FINAL_MARK : goal.returns-then-e-eq-FINAL_MARK
returns-then-e-eq-FINAL_MARK c = c.one_bit.ensures.set ∙ final_yes _ _ _ c.if-e-h.true c.if-e-eq-FINAL_MARK.true

pub returns-else-e-h : goal.returns-else-e-h
returns-else-e-h c =
    elim c.else-e-h.branch [
      | else-e-h-via-then-e-h+else-e-eq-FINAL_MARK w ↦ final_other _ _ _ w.if-e-eq-FINAL_MARK.false
      | else-e-h-via-else-e-h w ↦ final_inner _ _ _ w.if-e-h.false
    ]
