-- `case_file::code_record` meets its contract.
-- Assumes nothing.
use native.Mathlib.Omega.{arith}
use Rattle.files.proofs.Case.Laws.{CodesPlaces}
use Rattle.case_file.specs.Forms.Laws.{record_there, record_is}
use Rattle.case_file.proofs.code_record.Goals as goal

pub body_part-requires : goal.body_part-requires
body_part-requires c = let p : CodesPlaces c.args.file.now = record_there _ c.requires.0 c.requires.1 in omega arith

pub returns : goal.returns
returns c = record_is c.args.file.now c.requires.0 c.requires.1 c.body_part.ensures
