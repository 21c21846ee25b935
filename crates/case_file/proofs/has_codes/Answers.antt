-- `case_file::has_codes` meets its contract.
-- Assumes nothing.
use native.Mathlib.Omega.{arith}
use Rattle.files.proofs.Case.Laws.{CasePlaces, case_places}
use Rattle.case_file.specs.Forms.Laws.{codes_tell}
use Rattle.case_file.proofs.has_codes.Goals as goal

pub byte_at-requires : goal.byte_at-requires
byte_at-requires c = let p : CasePlaces c.args.file.now = case_places _ c.requires in omega arith

pub returns : goal.returns
returns c = codes_tell c.args.file.now c.byte_at.ensures.value
