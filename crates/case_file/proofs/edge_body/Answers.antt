-- `case_file::edge_body` meets its contract.
-- Assumes nothing.
use native.Mathlib.Omega.{arith}
use Rattle.files.proofs.Case.Laws.{CasePlaces, case_places}
use Rattle.case_file.proofs.edge_body.Goals as goal

pub body_part-requires : goal.body_part-requires
body_part-requires c =
    let p : CasePlaces c.args.file.now = case_places _ c.requires in
    omega arith
