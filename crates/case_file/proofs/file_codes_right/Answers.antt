-- `case_file::file_codes_right` meets its contract.
-- Assumes nothing.
use mathlib.Core.Path.{ap, sym, ◌∙◌}
use Rattle.std.specs.Prelude.{not}
use Rattle.case_file.specs.Forms.Laws.{ours_pass}
use Rattle.case_file.proofs.file_codes_right.Goals as goal

pub returns-then-not-has_codes : goal.returns-then-not-has_codes
returns-then-not-has_codes c =
    ap not c.if-not-has_codes.true ∙ ours_pass c.args.file.now c.requires (sym c.has_codes.ensures ∙ c.if-not-has_codes.true)
