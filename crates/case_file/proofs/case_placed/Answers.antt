-- `case_file::case_placed` meets its contract.
-- Assumes nothing.
use mathlib.Core.Path.{ap, sym, ◌∙◌}
use Rattle.std.specs.Prelude.{Some}
use borrow.Author.Tests.{eqb-true}
use Rattle.files.specs.Case.{case_bodies, code_body}
use Rattle.case_file.specs.Forms.Laws.{no_bytes, placed_plain, placed_coded, placed_none}
use Rattle.case_file.proofs.case_placed.Goals as goal

pub returns-then-is_empty : goal.returns-then-is_empty
returns-then-is_empty c = no_bytes c.args.file.now (eqb-true _ _ (sym c.is_empty.ensures ∙ c.if-is_empty.true))

pub returns-in-Some-Plain : goal.returns-in-Some-Plain
unfolding case_bodies code_body
returns-in-Some-Plain c = placed_plain c.args.file.now c.byte_at.ensures.value c.form_of.ensures (c.in-Some-Plain.is ∙ ap Some c.in-Some-Plain.field-0-is) c.placed.ensures

pub returns-in-Some-Coded : goal.returns-in-Some-Coded
unfolding case_bodies code_body
returns-in-Some-Coded c = placed_coded c.args.file.now c.byte_at.ensures.value c.form_of.ensures (c.in-Some-Coded.is ∙ ap Some c.in-Some-Coded.field-0-is) c.placed-in-Some-Coded.ensures

pub returns-in-None : goal.returns-in-None
returns-in-None c = placed_none c.args.file.now c.byte_at.ensures.value c.form_of.ensures c.in-None.is
