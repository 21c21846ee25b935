-- `start_file::file_cells_right` meets its contract.
-- Assumes nothing.
use Prim.Native.Nat.{ℕ}
use mathlib.Core.Path.{ap, ◌∙◌}
use mathlib.Core.List.{List, map}
use native.Mathlib.Omega.{arith}
use Rattle.files.specs.Start.{cell_bytes, cell_records, cells_right}
use Rattle.files.specs.Start.Laws.{StartPlaces, start_places}
use Rattle.bytes_in.specs.Records.Laws.{body_fits, records_here}
use Rattle.start_file.proofs.file_cells_right.Goals as goal

pub count_of-requires : goal.count_of-requires
count_of-requires c =
    let p : StartPlaces c.args.file.now = start_places _ c.requires in
    omega arith

pub cells_right-requires : goal.cells_right-requires
cells_right-requires c =
    let p : StartPlaces c.args.file.now = start_places _ c.requires in
    (body_fits _ _ _ _ _ (omega arith) c.cell_body.ensures c.count_of.ensures.value, omega arith)

pub returns : goal.returns
unfolding cell_records
returns c =
    c.cells_right.ensures
    ∙ ap (λ (cs : List (List ℕ)). cells_right c.args.symbols (map cell_bytes cs) 0 (map cell_bytes cs))
    (records_here _ _ _ _ _ c.cell_body.ensures c.count_of.ensures.value)
