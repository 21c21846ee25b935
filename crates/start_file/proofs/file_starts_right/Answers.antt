-- `start_file::file_starts_right` meets its contract.
-- Assumes nothing.
use Prim.Native.Nat.{ℕ}
use mathlib.Core.Path.{ap₂, ◌∙◌}
use mathlib.Core.List.{List, map}
use native.Mathlib.Omega.{arith}
use Rattle.words.specs.Lists.{every}
use Rattle.files.specs.Start.{start_of, starts_of, cell_bytes, cell_records, start_right}
use Rattle.files.specs.Start.Laws.{StartPlaces, start_places}
use Rattle.bytes_in.specs.Records.Laws.{body_fits, records_here}
use Rattle.start_file.proofs.file_starts_right.Goals as goal

pub count_of-m-requires : goal.count_of-m-requires
count_of-m-requires c =
    let p : StartPlaces c.args.file.now = start_places _ c.requires in
    omega arith

pub count_of-n-requires : goal.count_of-n-requires
count_of-n-requires c =
    let p : StartPlaces c.args.file.now = start_places _ c.requires in
    omega arith

pub starts_right-requires : goal.starts_right-requires
starts_right-requires c =
    let p : StartPlaces c.args.file.now = start_places _ c.requires in (
      body_fits _ _ _ _ _ (omega arith) c.start_body.ensures c.count_of-m.ensures.value,
      omega arith,
      body_fits _ _ _ _ _ (omega arith) c.cell_body.ensures c.count_of-n.ensures.value,
      omega arith,
    )

pub returns : goal.returns
unfolding starts_of cell_records
returns c =
    c.starts_right.ensures
    ∙ ap₂ (λ (cs ss : List (List ℕ)). every (start_right c.args.controls (map cell_bytes cs)) (map start_of ss))
    (records_here _ _ _ _ _ c.cell_body.ensures c.count_of-n.ensures.value)
    (records_here _ _ _ _ _ c.start_body.ensures c.count_of-m.ensures.value)
