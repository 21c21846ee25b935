-- `edge_readings::read_edges`, `edge_readings::choose_left` and `edge_readings::read_choices`, which call each other, meet their contracts.
-- Assumes nothing.
use Prim.Native.Nat.{◌+◌, ◌<◌}
use mathlib.Core.Path.{refl, ap, ◌∙◌}
use native.Mathlib.Omega.{arith}
use lib.ListN.{length}
use Rattle.tables.specs.Rows.Laws.{length_rows_in}
use Rattle.tables.specs.Layouts.{move_row, entry_row}
use Rattle.offers.specs.Offers.Laws.{collects_over}
use Rattle.edge_readings.specs.Edges.Laws.{edges_none, edges_yes, edges_no, edges_all, held_end, held_edge}
use Rattle.edge_readings.specs.Edges.Collected.{all_first, all_end, all_noted}
use Rattle.readings.specs.Readings.Inner.{reads_alone, held_table}
use Rattle.readings.specs.Memo.Laws.{edges_gives, memo_found, memo_same}
use Rattle.readings.proofs.Gathering.Laws.{nothing_collected, can_read, read_collected}
use Rattle.edge_readings.proofs.+edges.Goals as goal
use Rattle.edge_readings.proofs.+edges.Goals.{read_choices-then-e-part, read_choices-else-e-part}

pub choose_left-returns-then-to-n : goal.choose_left-returns-then-to-n
choose_left-returns-then-to-n t c =
    nothing_collected _ _ _ _ _ _ c.requires.0 (collects_over _ _ _ c.requires.0.stands.number c.if-to-n.true)

pub choose_left-returns-then-holds : goal.choose_left-returns-then-holds
choose_left-returns-then-holds t c =
    let few = length_rows_in move_row c.args.by.now.moves.held.table.moves c.args.by.now.moves.held.moves.now in
    let h = c.requires.0 in
    nothing_collected _ _ _ _ _ _ h
    (memo_found _ _ _ _ _ (edges_gives _ _ _ _ _ _ _ _ _ _ few _ c.edges_state-x.ensures) h.memo_holds h.stands.number c.place-row.ensures c.holds.ensures c.if-holds.true)

pub choose_left-returns : goal.choose_left-returns
choose_left-returns t c =
    all_noted _ _ _ _ _ _ _ c.args.to _ _ _ _ _ _ _ _ _ _ _ (length_rows_in move_row c.args.by.now.moves.held.table.moves c.args.by.now.moves.held.moves.now) refl c.edges_state-x.ensures
    (all_first _ _ _ _ _ _ _ c.args.to _ _ _ _ _ _ c.least_member-part.ensures.s_value c.read_choices-k.ensures) (omega (arith, c.place-row.ensures, c.read_choices-k.auto.memo)) c.put.ensures

pub read_choices-loop-i-init : goal.read_choices-loop-i-init
read_choices-loop-i-init t c =
    (edges_none c.args.by.now.moves.held.table _ _ _ _ _ _ _ _ _ _ _ _ _ c.requires.0.stands.number, refl, c.requires.0.memo_holds, refl)

pub read_choices-overflow_add-held : goal.read_choices-overflow_add-held
read_choices-overflow_add-held t c =
    omega (arith, c.args.by.now.edges_stand.edges_lent, c.args.by.now.moves.held.entries_stand.states_few, c.requires.1.settles.entries_before, length_rows_in entry_row c.args.by.now.moves.held.table.entries c.args.by.now.moves.held.entries.now)

pub read_choices-read_edges-k-requires : goal.read_choices-read_edges-k-requires
read_choices-read_edges-k-requires t c =
    let h = c.requires.0 in (
      omega (arith, c.decreases),
      (
        record {
          stands = record { room_lent = omega (arith, h.stands.room_lent, c.loop-i.invariant.1); number = c.loop-i.invariant.0.offered.number };
          memo_holds = c.loop-i.invariant.2;
        },
        held_edge c.args.by.now.moves.held.table _ _ _ c.args.to _ _ _ _ _ _ _ _ _ _ _ _ _ c.loop-i-test.true c.edge_of-e.ensures.result_value c.if-e-part.true (c.unchanged-oldest.ensures _ refl) c.is_newer-newer.ensures c.is_newest-newest.ensures c.name-more.ensures c.join-t.ensures c.requires.1,
      ),
    )

pub read_choices-loop-i-preserved : goal.read_choices-loop-i-preserved
read_choices-loop-i-preserved t c =
    let within : c.loop-i.i < c.args.by.now.moves.held.table.edges + c.args.by.now.moves.held.table.entries = c.loop-i-test.true in
    let edge = c.edge_of-e.ensures.result_value in
    elim c.if-e-part.branch [
      | read_choices-then-e-part w ↦ (
        edges_yes c.args.by.now.moves.held.table _ _ _ _ _ _ _ _ _ _ _ _ _ _ _ _ _ c.loop-i.invariant.0 within edge _ _ _ _ _ _ _ w.if-e-part.true (w.unchanged-oldest.ensures _ refl) w.name-more.ensures w.join-t.ensures w.read_edges-k.ensures.collects w.read_edges-k.auto.out w.out-is w.k-is,
        ap length w.out-is ∙ w.read_edges-k.auto.out ∙ c.loop-i.invariant.1,
        memo_same w.read_edges-k.ensures.memo_holds w.memo-is w.out-is w.k-is,
        ap length w.memo-is ∙ w.read_edges-k.auto.memo ∙ c.loop-i.invariant.3,
      )
      | read_choices-else-e-part w ↦ (
        edges_no c.args.by.now.moves.held.table _ _ _ _ _ _ _ _ _ _ _ _ _ _ _ _ _ c.loop-i.invariant.0 within edge _ _ w.if-e-part.false w.out-is w.k-is,
        ap length w.out-is ∙ c.loop-i.invariant.1,
        memo_same c.loop-i.invariant.2 w.memo-is w.out-is w.k-is,
        ap length w.memo-is ∙ c.loop-i.invariant.3,
      )
    ]

pub read_choices-returns : goal.read_choices-returns
read_choices-returns t c =
    record { collects = edges_all c.args.by.now.moves.held.table _ _ _ _ _ _ _ _ _ _ _ _ _ _ _ _ c.loop-i.invariant.0 c.loop-i-test.false; memo_holds = c.loop-i.invariant.2 }

pub read_edges-read_from-requires : goal.read_edges-read_from-requires
read_edges-read_from-requires t c =
    (can_read c.args.by.now.moves.held.table _ _ _ _ _ _ _ c.requires.0, held_table c.args.by.now.moves.held.table _ _ _ c.args.to _ _ (reads_alone c.args.to _ _ _) (held_end _ c.args.to _ _ _ _ _ c.requires.1 c.if-left-eq0.true))

pub read_edges-returns-then-left-eq0 : goal.read_edges-returns-then-left-eq0
read_edges-returns-then-left-eq0 t c =
    all_end _ _ _ _ _ _ _ c.args.to _ _ _ _ c.if-left-eq0.true (read_collected c.args.by.now.moves.held.table _ _ _ _ _ _ _ c.requires.0 _ _ _ _ (reads_alone c.args.to _ _ _) c.read_from.ensures)
