-- `choices::count` meets its contract.
-- Assumes nothing.
use mathlib.Core.Path.{ap}
use native.Mathlib.Omega.{arith}
use Rattle.chains.specs.Chains.{number_after}
use Rattle.chains.specs.Chains.Laws.{last_below_lem, chain_falls}
use Rattle.choices.proofs.count.Goals as goal

pub loop-next-init : goal.loop-next-init
loop-next-init c = rw (c.last-next.ensures _ _ c.requires.1) (last_below_lem _ _ _)

pub move_at-requires : goal.move_at-requires
move_at-requires c =
    omega (arith, ap number_after c.in-Some.is, c.loop-next.invariant, c.requires.0.moves_lent)

pub before-next-requires : goal.before-next-requires
before-next-requires c =
    (c.requires.1.long, omega (arith, ap number_after c.in-Some.is, c.loop-next.invariant, c.requires.1.few))

pub loop-next-smaller : goal.loop-next-smaller
loop-next-smaller c =
    chain_falls _ _ _ _ _ c.in-Some.is (c.before-next.ensures _ _ c.requires.1 (omega (arith, ap number_after c.in-Some.is, c.loop-next.invariant)))

pub loop-next-preserved : goal.loop-next-preserved
loop-next-preserved c =
    omega (arith, chain_falls _ _ _ _ _ c.in-Some.is (c.before-next.ensures _ _ c.requires.1 (omega (arith, ap number_after c.in-Some.is, c.loop-next.invariant))), c.loop-next.invariant)
