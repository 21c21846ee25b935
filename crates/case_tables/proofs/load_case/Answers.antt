-- `case_tables::load_case` meets its contract.
-- Assumes nothing.
use mathlib.Core.Path.{refl}
use native.Mathlib.Omega.{arith}
use Rattle.files.specs.Case.{own_of}
use Rattle.files.proofs.Case.Laws.{CasePlaces, case_places}
use Rattle.services.specs.Memory.{counted}
use Rattle.tables.specs.Layouts.{edge_row, entry_row, counted_row, move_row}
use Rattle.bytes_in.specs.Records.Laws.{body_fits}
use Rattle.case_tables.specs.Own.{HoldsOwn}
use Rattle.case_tables.specs.Own.Laws.{own_entries, own_finals, own_few, own_loaded, own_counted, holds_inner, holds_entries, entries_ready, holds_counted, holds_moves}
use Rattle.case_tables.proofs.load_case.Goals as goal

pub count_of-n-requires : goal.count_of-n-requires
count_of-n-requires c = let p : CasePlaces c.args.file.now = case_places _ c.requires.0 in omega arith

pub count_of-m-requires : goal.count_of-m-requires
count_of-m-requires c = let p : CasePlaces c.args.file.now = case_places _ c.requires.0 in omega arith

pub load_inner-inner_count-requires : goal.load_inner-inner_count-requires
load_inner-inner_count-requires c =
    let p : CasePlaces c.args.file.now = case_places _ c.requires.0 in
    (body_fits _ _ _ _ _ (omega arith) c.edge_body.ensures c.count_of-n.ensures.value, omega arith, omega arith)

pub load_entries-entry_count-requires : goal.load_entries-entry_count-requires
load_entries-entry_count-requires c =
    let p : CasePlaces c.args.file.now = case_places _ c.requires.0 in (
      body_fits _ _ _ _ _ (omega arith) c.edge_body-2.ensures c.count_of-n.ensures.value,
      omega arith,
      rw (own_entries _ _ _ _ c.head_of-h.ensures c.edge_body-2.ensures c.count_of-n.ensures.value) c.requires.1.entry_room,
    )

pub load_moves-requires : goal.load_moves-requires
load_moves-requires c =
    let p : CasePlaces c.args.file.now = case_places _ c.requires.0 in
    let known = holds_entries _ _ _ _ _ _ _ c.head_of-h.ensures c.edge_body-2.ensures c.count_of-n.ensures.value c.load_entries-entry_count.ensures.t_after c.load_entries-entry_count.ensures.value c.requires.1.entry_room in
    let (room, none) = entries_ready _ _ _ _ c.head_of-h.result.inner1 known in (
      body_fits _ _ _ _ _ (omega arith) c.move_body.ensures c.count_of-m.ensures.value,
      omega arith,
      omega arith,
      room,
      none,
    )

pub final_entries-finals-requires : goal.final_entries-finals-requires
final_entries-finals-requires c =
    let p : CasePlaces c.args.file.now = case_places _ c.requires.0 in (
      body_fits _ _ _ _ _ (omega arith) c.edge_body-3.ensures c.count_of-n.ensures.value,
      omega arith,
      own_few _ _ _ _ c.head_of-h.ensures c.edge_body-3.ensures c.count_of-n.ensures.value c.requires.1.states_few,
    )

pub returns-clause-moves_after : goal.returns-clause-moves_after
returns-clause-moves_after c =
    let the-head = c.head_of-h.ensures in
    let IsEdge-count = c.count_of-n.ensures.value in
    let move_count_holds = c.count_of-m.ensures.value in
    let i : HoldsOwn edge_row (own_of c.args.file.now).inner c.args.inner.now _ _ =
    holds_inner _ _ _ _ _ _ _ the-head c.edge_body.ensures IsEdge-count c.load_inner-inner_count.ensures.t_after c.load_inner-inner_count.ensures.value c.load_inner-inner_count.ensures.upper_bound c.requires.1.inner_room in
    let known : HoldsOwn entry_row (own_of c.args.file.now).entries c.args.entries.now _ _ =
    holds_entries _ _ _ _ _ _ _ the-head c.edge_body-2.ensures IsEdge-count c.load_entries-entry_count.ensures.t_after c.load_entries-entry_count.ensures.value c.requires.1.entry_room in
    let e : HoldsOwn counted_row (counted (own_of c.args.file.now)) c.args.entries.now _ _ =
    holds_counted _ _ _ _ _ _ _ _ the-head c.move_body.ensures move_count_holds known c.load_moves.ensures.entries_after in
    let m : HoldsOwn move_row (own_of c.args.file.now).moves c.args.moves.now _ _ =
    holds_moves _ _ _ _ _ c.move_body.ensures move_count_holds c.load_moves.ensures.t_after c.requires.1.move_room in
    let finals = own_finals _ _ _ _ c.edge_body-3.ensures IsEdge-count c.final_entries-finals.ensures c.join.ensures in
    own_loaded _ _ _ _ _ _ _ _ _ the-head refl finals refl i e m

pub returns-clause-inner_after : goal.returns-clause-inner_after
returns-clause-inner_after c =
    let the-head = c.head_of-h.ensures in
    let IsEdge-count = c.count_of-n.ensures.value in
    let i : HoldsOwn edge_row (own_of c.args.file.now).inner c.args.inner.now _ _ =
    holds_inner _ _ _ _ _ _ _ the-head c.edge_body.ensures IsEdge-count c.load_inner-inner_count.ensures.t_after c.load_inner-inner_count.ensures.value c.load_inner-inner_count.ensures.upper_bound c.requires.1.inner_room in
    i.is

pub returns-clause-entries_after : goal.returns-clause-entries_after
returns-clause-entries_after c =
    let the-head = c.head_of-h.ensures in
    let IsEdge-count = c.count_of-n.ensures.value in
    let move_count_holds = c.count_of-m.ensures.value in
    let known : HoldsOwn entry_row (own_of c.args.file.now).entries c.args.entries.now _ _ =
    holds_entries _ _ _ _ _ _ _ the-head c.edge_body-2.ensures IsEdge-count c.load_entries-entry_count.ensures.t_after c.load_entries-entry_count.ensures.value c.requires.1.entry_room in
    let e : HoldsOwn counted_row (counted (own_of c.args.file.now)) c.args.entries.now _ _ =
    holds_counted _ _ _ _ _ _ _ _ the-head c.move_body.ensures move_count_holds known c.load_moves.ensures.entries_after in
    e.is

pub returns-clause-moves_after_2 : goal.returns-clause-moves_after_2
returns-clause-moves_after_2 c =
    let move_count_holds = c.count_of-m.ensures.value in
    let m : HoldsOwn move_row (own_of c.args.file.now).moves c.args.moves.now _ _ =
    holds_moves _ _ _ _ _ c.move_body.ensures move_count_holds c.load_moves.ensures.t_after c.requires.1.move_room in
    m.is

pub returns-clause-counted : goal.returns-clause-counted
returns-clause-counted c =
    let the-head = c.head_of-h.ensures in
    let IsEdge-count = c.count_of-n.ensures.value in
    let move_count_holds = c.count_of-m.ensures.value in
    let known : HoldsOwn entry_row (own_of c.args.file.now).entries c.args.entries.now _ _ =
    holds_entries _ _ _ _ _ _ _ the-head c.edge_body-2.ensures IsEdge-count c.load_entries-entry_count.ensures.t_after c.load_entries-entry_count.ensures.value c.requires.1.entry_room in
    let e : HoldsOwn counted_row (counted (own_of c.args.file.now)) c.args.entries.now _ _ =
    holds_counted _ _ _ _ _ _ _ _ the-head c.move_body.ensures move_count_holds known c.load_moves.ensures.entries_after in
    let m : HoldsOwn move_row (own_of c.args.file.now).moves c.args.moves.now _ _ =
    holds_moves _ _ _ _ _ c.move_body.ensures move_count_holds c.load_moves.ensures.t_after c.requires.1.move_room in
    own_counted _ _ _ _ _ _ _ _ _ the-head refl e m
