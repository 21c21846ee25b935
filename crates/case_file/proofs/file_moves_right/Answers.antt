-- `case_file::file_moves_right` meets its contract.
-- Assumes nothing.
use Prim.Native.Nat.{ℕ}
use mathlib.Core.Path.{ap, ◌∙◌}
use mathlib.Core.List.{List, map}
use native.Mathlib.Omega.{arith}
use Rattle.words.specs.Lists.{every}
use Rattle.files.specs.Case.{move_of, move_right, move_records}
use Rattle.files.proofs.Case.Laws.{CasePlaces, case_places}
use Rattle.case_records.specs.Values.{the_head}
use Rattle.bytes_in.specs.Records.Laws.{body_fits, records_here}
use Rattle.case_file.proofs.file_moves_right.Goals as goal

pub count_of-requires : goal.count_of-requires
count_of-requires c =
    let p : CasePlaces c.args.file.now = case_places _ c.requires in
    omega arith

pub moves_right-requires : goal.moves_right-requires
moves_right-requires c =
    let p : CasePlaces c.args.file.now = case_places _ c.requires in
    (body_fits _ _ _ _ _ (omega arith) c.move_body.ensures c.count_of.ensures.value, omega arith)

pub returns : goal.returns
unfolding move_records
returns c =
    c.moves_right.ensures
    ∙ ap (λ (xs : List (List ℕ)). every (move_right (the_head c.args.h.head) c.args.states) (map move_of xs))
    (records_here _ _ _ _ _ c.move_body.ensures c.count_of.ensures.value)
