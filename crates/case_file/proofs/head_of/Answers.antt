-- `case_file::head_of` meets its contract.
-- Assumes nothing.
use mathlib.Core.Path.{◌∙◌}
use native.Mathlib.Omega.{arith}
use Rattle.files.proofs.Case.Laws.{CasePlaces, case_places}
use Rattle.case_file.specs.Laws.Bodies.{head_length, head_here}
use Rattle.case_file.proofs.head_of.Goals as goal

pub body_part-requires : goal.body_part-requires
body_part-requires c =
    let p : CasePlaces c.args.file.now = case_places _ c.requires in
    omega arith

pub read_head-requires : goal.read_head-requires
read_head-requires c = head_length _ _ (case_places _ c.requires) c.body_part.ensures

pub returns : goal.returns
returns c = c.read_head.ensures ∙ head_here _ _ (case_places _ c.requires) c.body_part.ensures
