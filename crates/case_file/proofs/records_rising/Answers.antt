-- `case_file::records_rising` meets its contract.
-- Assumes nothing.
use native.Mathlib.Omega.{arith}
use mathlib.Core.Path.{ap, sym, ◌∙◌, ◌≡◌}
use mathlib.Core.List.{List, map}
use Prim.Native.Nat.{ℕ}
use Rattle.words.specs.Order.{rising}
use Rattle.files.specs.Case.{increasing, edge_records, move_of, move_key, move_records}
use Rattle.files.proofs.Case.Laws.{CasePlaces, case_places}
use Rattle.bytes_in.specs.Records.Laws.{body_fits, records_here}
use Rattle.case_file.specs.Laws.Increasing.{edges_are}
use Rattle.case_file.proofs.records_rising.Goals as goal

pub count_of-edges-requires : goal.count_of-edges-requires
count_of-edges-requires c = let p : CasePlaces c.args.file.now = case_places _ c.requires.0 in
    omega arith

pub count_of-moves-requires : goal.count_of-moves-requires
count_of-moves-requires c = let p : CasePlaces c.args.file.now = case_places _ c.requires.0 in
    omega arith

pub edges_rising-requires : goal.edges_rising-requires
edges_rising-requires c = let p : CasePlaces c.args.file.now = case_places _ c.requires.0 in
    (body_fits _ _ _ _ _ (omega arith) c.edge_body.ensures c.count_of-edges.ensures.value, omega arith)

pub moves_rising-requires : goal.moves_rising-requires
moves_rising-requires c = let p : CasePlaces c.args.file.now = case_places _ c.requires.0 in
    (body_fits _ _ _ _ _ (omega arith) c.move_body.ensures c.count_of-moves.ensures.value, omega arith)

pub returns-then-edges_rising : goal.returns-then-edges_rising
unfolding increasing edge_records move_records
returns-then-edges_rising c =
    let edges = edges_are _ _ _ _ c.requires.1 c.edge_body.ensures c.count_of-edges.ensures.value c.edges_rising.ensures in
    let moves : c.moves_rising.result ≡ rising move_key (move_records c.args.file.now) =
    c.moves_rising.ensures
    ∙ ap (λ (xs : List (List ℕ)). rising move_key (map move_of xs)) (records_here _ _ _ _ _ c.move_body.ensures c.count_of-moves.ensures.value) in
    rw (sym edges ∙ c.if-edges_rising.true) moves

pub returns-else-edges_rising : goal.returns-else-edges_rising
unfolding increasing
returns-else-edges_rising c =
    let edges = edges_are _ _ _ _ c.requires.1 c.edge_body.ensures c.count_of-edges.ensures.value c.edges_rising.ensures in
    c.if-edges_rising.false ∙ rw (sym edges ∙ c.if-edges_rising.false)
