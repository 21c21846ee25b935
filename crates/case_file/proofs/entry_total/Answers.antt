-- `case_file::entry_total` meets its contract.
-- Assumes nothing.
use Prim.Native.Nat.{ℕ}
use mathlib.Core.Path.{ap, ◌∙◌}
use mathlib.Core.List.{List, map}
use lib.ListN.{length}
use native.Mathlib.Omega.{arith}
use Rattle.files.specs.Case.{edge_bytes, edge_records, entries_of}
use Rattle.files.proofs.Case.Laws.{CasePlaces, case_places}
use Rattle.case_records.specs.Values.{the_head}
use Rattle.bytes_in.specs.Records.Laws.{body_fits, records_here}
use Rattle.case_file.proofs.entry_total.Goals as goal

pub count_of-requires : goal.count_of-requires
count_of-requires c =
    let p : CasePlaces c.args.file.now = case_places _ c.requires in
    omega arith

pub entries_in-requires : goal.entries_in-requires
entries_in-requires c =
    let p : CasePlaces c.args.file.now = case_places _ c.requires in
    (body_fits _ _ _ _ _ (omega arith) c.edge_body.ensures c.count_of.ensures.value, omega arith)

pub returns-clause-value : goal.returns-clause-value
unfolding edge_records
returns-clause-value c =
    c.entries_in.ensures.value
    ∙ ap (λ (xs : List (List ℕ)). length (entries_of (the_head c.args.h) (map edge_bytes xs)))
    (records_here _ _ _ _ _ c.edge_body.ensures c.count_of.ensures.value)
