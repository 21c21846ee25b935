-- `move_index::has_move` meets its contract.
-- Assumes nothing.
use mathlib.Core.Bool.{false}
use mathlib.Core.Path.{◌≡◌, ap, sym, ◌∙◌}
use native.Mathlib.Omega.{arith}
use Rattle.tables.specs.Records.{as_move}
use Rattle.chains.specs.Chains.{number_after}
use Rattle.chains.specs.Chains.Laws.{chain_falls}
use Rattle.move_index.specs.Keys.{same_move}
use Rattle.move_index.specs.Keys.Laws.{same_fields}
use Rattle.move_index.specs.Search.Laws.{missed_start, missed_more, search_found, search_none}
use Rattle.move_index.proofs.has_move.Goals as goal

pub loop-next-init : goal.loop-next-init
loop-next-init c = missed_start _ _ _ _ _ c.words_key.ensures.value (c.last-next.ensures _ _ c.requires.1)

pub move_at-requires : goal.move_at-requires
move_at-requires c = omega (arith, ap number_after c.in-Some.is, c.loop-next.invariant.within, c.requires.0.moves_lent)

pub before-next-requires : goal.before-next-requires
before-next-requires c =
    (c.requires.1.long, omega (arith, ap number_after c.in-Some.is, c.loop-next.invariant.within, c.requires.1.few))

pub returns-then-eq : goal.returns-then-eq
returns-then-eq c =
    search_found _ _ _ _ (omega (arith, ap number_after c.in-Some.is, c.loop-next.invariant.within)) (sym (ap (same_move _) c.move_at.ensures) ∙ same_fields (as_move c.args.m) (as_move c.move_at.result) ∙ sym c.eq.ensures ∙ c.if-eq.true)

pub loop-next-smaller : goal.loop-next-smaller
loop-next-smaller c =
    let w = c.loop-next.invariant in
    chain_falls _ _ _ _ _ c.in-Some.is (c.before-next.ensures _ _ c.requires.1 (omega (arith, ap number_after c.in-Some.is, w.within)))

pub loop-next-preserved : goal.loop-next-preserved
loop-next-preserved c =
    let w = c.loop-next.invariant in
    let here = ap number_after c.in-Some.is in
    let differ : same_move (as_move c.args.m) (as_move c.move_at.result) ≡ false = same_fields _ _ ∙ sym c.eq.ensures ∙ c.if-eq.false in
    missed_more _ _ _ _ _ (rw (sym here) w) (sym (ap (same_move _) c.move_at.ensures) ∙ differ)
    (c.before-next.ensures _ _ c.requires.1 (omega (arith, here, w.within)))

pub returns : goal.returns
returns c = search_none _ _ _ _ c.loop-next.invariant (omega (arith, ap number_after c.in_default.is))
