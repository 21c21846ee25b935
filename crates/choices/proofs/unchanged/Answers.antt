-- `choices::unchanged` meets its contract.
-- Assumes nothing.
use mathlib.Core.Path.{ap, sym, ◌∙◌}
use native.Mathlib.Omega.{arith}
use borrow.Author.Rules.{rules}
use Rattle.chains.specs.Chains.{number_after}
use Rattle.chains.specs.Chains.Laws.{chain_falls}
use Rattle.joins.specs.Joining.{candidate_of}
use Rattle.choices.specs.Unchanged.Laws.{walked_start, walked_other, walked_choice, unchanged_end}
use Rattle.choices.proofs.unchanged.Goals as goal
use Rattle.choices.proofs.unchanged.Goals.{in-Some-candidate+else-ne, in_default-candidate}

pub loop-next-init : goal.loop-next-init
loop-next-init c = walked_start _ _ _ _ _ _ _ c.state_key.ensures.value (c.last-next.ensures _ _ c.requires.1)

pub move_at-requires : goal.move_at-requires
move_at-requires c =
    omega (arith, ap number_after c.in-Some.is, c.loop-next.invariant.within, c.requires.0.moves_lent)

pub before-next-requires : goal.before-next-requires
before-next-requires c =
    (c.requires.1.long, omega (arith, ap number_after c.in-Some.is, c.loop-next.invariant.within, c.requires.1.few))

pub loop-next-smaller : goal.loop-next-smaller
loop-next-smaller c =
    chain_falls _ _ _ _ _ c.in-Some.is (c.before-next.ensures _ _ c.requires.1 (omega (arith, ap number_after c.in-Some.is, c.loop-next.invariant.within)))

pub loop-next-preserved : goal.loop-next-preserved
loop-next-preserved c =
    let here = ap number_after c.in-Some.is in
    let walk = c.loop-next.invariant in
    let back = c.before-next.ensures _ _ c.requires.1 (omega (arith, here, walk.within)) in
    elim c.match-candidate.branch [
      | in-Some-candidate+else-ne w ↦ walked_choice _ _ _ _ _ _ _ (number_after c.loop-next.oldest) _ _ (rw (sym here) walk) (sym (ap (candidate_of _ _ _) c.move_at.ensures) ∙ sym w.in-Some-candidate.ensures) (search rules) (ap number_after w.oldest-is) back
      | in_default-candidate w ↦ walked_other _ _ _ _ _ _ _ (number_after c.loop-next.oldest) _ (rw (sym here) walk) (sym (ap (candidate_of _ _ _) c.move_at.ensures) ∙ sym w.in_default-candidate.ensures) (ap number_after w.oldest-is) back
    ]

pub returns : goal.returns
returns c = λ A e. unchanged_end A _ _ e _ _ _ _ _ c.loop-next.invariant (omega (arith, ap number_after c.in_default.is))
