-- `control_moves::by_entry_moves` meets its contract.
-- Assumes nothing.
use Prim.Native.Nat.{suc, ◌<◌}
use mathlib.Core.Path.{◌≡◌, refl, ap, ◌∙◌}
use native.Mathlib.Omega.{arith}
use Rattle.chains.specs.Chains.{number_after, last_below}
use Rattle.chains.specs.Chains.Laws.{chain_falls}
use Rattle.move_index.specs.Keys.{state_key_at}
use Rattle.readings.proofs.Gathering.Laws.{nothing_collected}
use Rattle.readings.specs.Turns.Laws.{chain_starts, chain_goes}
use Rattle.control_moves.specs.Control.Laws.{walk_none, walk_more, walk_all, entry_other, entry_own}
use Rattle.control_moves.proofs.by_entry_moves.Goals as goal

pub returns-then-entry_at-from : goal.returns-then-entry_at-from
returns-then-entry_at-from c =
    nothing_collected _ _ _ _ _ _ c.requires.0 (entry_other c.args.by.now.moves.held.table _ _ _ _ _ _ _ _ _ _ _ _ _ c.requires.2 c.entry_at.ensures c.requires.0.stands.number c.if-entry_at-from.true)

pub loop-next-init : goal.loop-next-init
loop-next-init c =
    let first = c.last-next.ensures _ _ c.args.by.now.moves.by_state ∙ ap (λ key. last_below (state_key_at c.args.by.now.moves.held.moves.now) key c.args.by.now.moves.held.table.moves) c.state_key.ensures.value in
    let chain = chain_starts c.args.by.now.moves.held.moves.now _ _ _ first in
    (chain.0, chain.1, walk_none c.args.by.now.moves.held.table _ _ _ _ _ _ _ _ _ _ _ _ _ c.requires.0.stands.number first, refl, c.requires.0.memo_holds, refl)

pub loop-next-smaller : goal.loop-next-smaller
loop-next-smaller c =
    chain_falls _ _ _ _ _ c.in-Some.is (c.before-next.ensures _ _ c.args.by.now.moves.by_state (omega (arith, ap number_after c.in-Some.is, c.loop-next.invariant.0)))

pub loop-next-preserved : goal.loop-next-preserved
loop-next-preserved c =
    let done = c.by_move-k in
    let long = done.auto.out in
    let loop = c.loop-next.invariant in
    let here : number_after c.loop-next.next ≡ suc c.in-Some.i = omega (arith, ap number_after c.in-Some.is) in
    let within : c.in-Some.i < c.args.by.now.moves.held.table.moves = omega (arith, here, loop.0) in
    let key = loop.1 c.in-Some.i here in
    let next = c.before-next.ensures _ _ c.args.by.now.moves.by_state within in
    let chain = chain_goes c.args.by.now.moves.held.moves.now _ _ _ _ within key next in (
      chain.0,
      chain.1,
      walk_more c.args.by.now.moves.held.table _ _ _ _ _ _ _ _ _ _ _ _ _ _ _ _ _ _ _ loop.2 here within key next done.ensures.collects long,
      long ∙ loop.3,
      done.ensures.memo_holds,
      done.auto.memo ∙ loop.5,
    )

pub returns : goal.returns
returns c =
    record {
      collects = entry_own c.args.by.now.moves.held.table _ _ _ _ _ _ _ _ _ _ _ _ _ c.requires.2 c.entry_at.ensures _ _ c.if-entry_at-from.false (walk_all c.args.by.now.moves.held.table _ _ _ _ _ _ _ _ _ _ _ _ _ _ _ c.loop-next.invariant.2 (omega (arith, ap number_after c.in_default.is)));
      memo_holds = c.loop-next.invariant.4;
    }
