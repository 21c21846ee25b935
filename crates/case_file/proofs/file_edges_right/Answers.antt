-- `case_file::file_edges_right` meets its contract.
-- Assumes nothing.
use Prim.Native.Nat.{ℕ}
use mathlib.Core.Path.{ap, ◌∙◌}
use mathlib.Core.List.{List, map}
use native.Mathlib.Omega.{arith}
use Rattle.words.specs.Lists.{every}
use Rattle.files.specs.Case.{edge_bytes, edge_right, edge_records}
use Rattle.files.proofs.Case.Laws.{CasePlaces, case_places}
use Rattle.case_records.specs.Values.{the_head}
use Rattle.bytes_in.specs.Records.Laws.{body_fits, records_here}
use Rattle.case_file.proofs.file_edges_right.Goals as goal

pub count_of-requires : goal.count_of-requires
count_of-requires c =
    let p : CasePlaces c.args.file.now = case_places _ c.requires in
    omega arith

pub edges_right-requires : goal.edges_right-requires
edges_right-requires c =
    let p : CasePlaces c.args.file.now = case_places _ c.requires in
    (body_fits _ _ _ _ _ (omega arith) c.edge_body.ensures c.count_of.ensures.value, omega arith)

pub returns : goal.returns
unfolding edge_records
returns c =
    c.edges_right.ensures
    ∙ ap (λ (xs : List (List ℕ)). every (edge_right (the_head c.args.h.head)) (map edge_bytes xs))
    (records_here _ _ _ _ _ c.edge_body.ensures c.count_of.ensures.value)
