-- `start_file::cell_body` meets its contract.
-- Assumes nothing.
use native.Mathlib.Omega.{arith}
use Rattle.files.specs.Start.Laws.{StartPlaces, start_places}
use Rattle.start_file.proofs.cell_body.Goals as goal

pub body_part-requires : goal.body_part-requires
body_part-requires c =
    let p : StartPlaces c.args.file.now = start_places _ c.requires in
    omega arith
