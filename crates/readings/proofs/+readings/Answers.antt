-- `readings::read_from`, `readings::read_left` and `readings::read_moves`, which call each other, meet their contracts.
-- Assumes nothing.
use Prim.Native.Nat.{suc, ◌<◌}
use mathlib.Core.Path.{◌≡◌, refl, ap, sym, ◌∙◌}
use native.Mathlib.Omega.{arith}
use lib.ListN.{length}
use Rattle.tables.specs.Rows.Laws.{length_rows_in}
use Rattle.tables.specs.Layouts.{move_row}
use Rattle.chains.specs.Chains.{number_after, last_below}
use Rattle.chains.specs.Chains.Laws.{chain_falls}
use Rattle.move_index.specs.Keys.{state_key_at}
use Rattle.offers.specs.Offers.Laws.{collects_over}
use Rattle.offers.specs.Offers.Alike.{collects_all_held}
use Rattle.readings.specs.Before.Laws.{held_settled, held_apart, held_move}
use Rattle.readings.proofs.Gathering.Laws.{offer_read, nothing_read, read_found, read_first, read_noted, kept_on, kept_same}
use Rattle.readings.specs.Turns.Laws.{down_none, down_yes, down_no, down_all, chain_starts, chain_goes, candidate_there, read_end, fewer_others}
use Rattle.readings.proofs.+readings.Goals as goal
use Rattle.readings.proofs.+readings.Goals.{read_moves-in-Some-candidate, read_moves-in_default-candidate}

pub read_from-returns-then-to-n : goal.read_from-returns-then-to-n
read_from-returns-then-to-n t c = nothing_read c.args.by.now.held.table _ _ _ _ _ _ _ (collects_over _ _ _ c.requires.0.stands.number c.if-to-n.true)

pub read_from-returns-then-is_settled : goal.read_from-returns-then-is_settled
read_from-returns-then-is_settled t c =
    nothing_read c.args.by.now.held.table _ _ _ _ _ _ _ (collects_all_held _ _ _ c.requires.0.stands.number (held_settled _ _ _ _ _ _ _ c.requires.1 c.is_settled.ensures c.if-is_settled.true))

pub read_from-returns-then-left-eq0 : goal.read_from-returns-then-left-eq0
read_from-returns-then-left-eq0 t c =
    offer_read c.args.by.now.held.table _ _ _ _ _ _ _ _ _ _ c.offer.ensures (read_end c.args.by.now.held.table _ _ _ _ _ _ _ _ _ _ _ _ _ _ _ c.if-left-eq0.true c.result-x.ensures c.offer.ensures)

pub read_left-returns-then-holds : goal.read_left-returns-then-holds
read_left-returns-then-holds t c =
    read_found c.args.by.now.held.table _ _ _ _ _ _ c.args.to _ _ _ _ _ _ _ _ (length_rows_in move_row c.args.by.now.held.table.moves c.args.by.now.held.moves.now) c.read_state-x.ensures _ c.requires.0 c.place-row.ensures c.holds.ensures c.if-holds.true

pub read_left-read_moves-k-requires : goal.read_left-read_moves-k-requires
read_left-read_moves-k-requires t c =
    (fewer_others _ _ _ _ c.fewest-q.ensures.result_value c.without.ensures c.decreases, (c.requires.0, held_apart _ _ _ _ _ _ _ _ c.fewest-q.ensures.result_value c.without.ensures c.requires.2))

pub read_left-returns : goal.read_left-returns
read_left-returns t c =
    read_noted c.args.by.now.held.table _ _ _ _ _ _ c.args.to _ _ _ _ _ _ _ _ (length_rows_in move_row c.args.by.now.held.table.moves c.args.by.now.held.moves.now) c.read_state-x.ensures _ _ _ _
    (read_first c.args.by.now.held.table _ _ _ _ _ _ _ _ _ c.args.to _ _ _ _ _ c.fewest-q.ensures.result_value c.without.ensures c.read_moves-k.ensures) (omega (arith, c.place-row.ensures, c.read_moves-k.auto.memo)) c.put.ensures

pub read_moves-loop-next-init : goal.read_moves-loop-next-init
read_moves-loop-next-init t c =
    let first = c.last-next.ensures _ _ c.args.by.now.by_state ∙ ap (λ key. last_below (state_key_at c.args.by.now.held.moves.now) key c.args.by.now.held.table.moves) c.state_key.ensures.value in
    let chain = chain_starts c.args.by.now.held.moves.now _ _ _ first in
    (chain.0, chain.1, down_none c.args.by.now.held.table _ _ _ _ _ _ _ _ _ _ _ _ c.requires.0.stands.number first, refl, (λ inner h. h), refl)

pub read_moves-read_from-k-requires : goal.read_moves-read_from-k-requires
read_moves-read_from-k-requires t c =
    let loop = c.loop-next.invariant in
    let here = ap number_after c.in-Some.is in
    let there = candidate_there c.args.by.now.held.table _ _ _ _ _ _ _ (omega (arith, here, loop.0)) c.move_at-m.ensures (sym c.in-Some-candidate.ensures) in
    let h = c.requires.0 in (
      omega (arith, c.decreases),
      (
        record {
          stands = record { room_lent = omega (arith, h.stands.room_lent, loop.3); number = loop.2.collected.number };
          inner = h.inner;
          memo_holds = loop.4 h.inner h.memo_holds;
        },
        held_move _ c.args.to _ _ _ _ _ _ _ _ there.0 there.1 c.is_newer-newer.ensures c.requires.1,
      ),
    )

pub read_moves-loop-next-smaller : goal.read_moves-loop-next-smaller
read_moves-loop-next-smaller t c =
    chain_falls _ _ _ _ _ c.in-Some.is (c.before-next.ensures _ _ c.args.by.now.by_state (omega (arith, ap number_after c.in-Some.is, c.loop-next.invariant.0)))

pub read_moves-loop-next-preserved : goal.read_moves-loop-next-preserved
read_moves-loop-next-preserved t c =
    let z = c.args.by.now.held.table in
    let loop = c.loop-next.invariant in
    let here : number_after c.loop-next.next ≡ suc c.in-Some.i = omega (arith, ap number_after c.in-Some.is) in
    let within : c.in-Some.i < z.moves = omega (arith, here, loop.0) in
    let key = loop.1 c.in-Some.i here in
    let next = c.before-next.ensures _ _ c.args.by.now.by_state within in
    let chain = chain_goes c.args.by.now.held.moves.now _ _ _ _ within key next in
    let row = c.move_at-m.ensures in
    elim c.match-candidate.branch [
      | read_moves-in-Some-candidate w ↦ (
        chain.0,
        chain.1,
        down_yes z _ _ _ _ _ _ _ _ _ _ _ _ _ _ _ _ _ _ loop.2 here within key row w.in-Some-candidate.ensures next _ _ _ _ _ refl w.read_from-k.ensures.collects w.read_from-k.auto.out w.out-is w.k-is,
        ap length w.out-is ∙ w.read_from-k.auto.out ∙ loop.3,
        kept_on z _ _ loop.4 w.read_from-k.ensures.memo_kept w.memo-is w.out-is w.k-is,
        ap length w.memo-is ∙ w.read_from-k.auto.memo ∙ loop.5,
      )
      | read_moves-in_default-candidate w ↦ (
        chain.0,
        chain.1,
        down_no z _ _ _ _ _ _ _ _ _ _ _ _ _ _ _ _ _ _ loop.2 here within key row w.in_default-candidate.ensures next _ _ refl w.out-is w.k-is,
        ap length w.out-is ∙ loop.3,
        kept_same z _ _ loop.4 w.memo-is w.out-is w.k-is,
        ap length w.memo-is ∙ loop.5,
      )
    ]

pub read_moves-returns : goal.read_moves-returns
read_moves-returns t c =
    record { collects = down_all c.args.by.now.held.table _ _ _ _ _ _ _ _ _ _ _ _ _ _ c.loop-next.invariant.2 (omega (arith, ap number_after c.in_default.is)); memo_kept = c.loop-next.invariant.4 }
