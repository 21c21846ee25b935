-- `rising_moves::after` meets its contract.
-- Assumes nothing.
use mathlib.Core.Path.{ap, ◌∙◌}
use Prim.Native.Nat.{ℕ, ◌-◌, ◌≤◌}
use native.Mathlib.Omega.{arith}
use Rattle.chains.specs.Chains.{number_after}
use Rattle.rising_moves.specs.Rising.{number_of, from_last}
use Rattle.rising_moves.specs.Rising.Laws.{last_after, last_fits}
use Rattle.rising_moves.proofs.after.Goals as goal

pub returns-in_err-j-clause-next : goal.returns-in_err-j-clause-next
returns-in_err-j-clause-next c =
    λ key h.
    let e = ap (λ (k : ℕ). 1024 - k) (c.before-2.ensures _ _ h (omega arith)) ∙ last_after key _ c.requires.1 in
    omega (arith, e, ap number_after c.in_err-j.was, ap number_of c.from_residual.ensures)

pub overflow_sub-result-2 : goal.overflow_sub-result-2
overflow_sub-result-2 c =
    let few : 1024 - 1 - c.args.i ≤ 1024 = omega arith in
    let b = last_fits (from_last c.requires.0.key) _ _ few (c.before-2.ensures _ _ c.requires.0.rising (omega arith)) in
    omega (arith, b, ap number_after c.in_ok-j.was)

pub returns-clause-next : goal.returns-clause-next
returns-clause-next c =
    λ key h.
    let few : 1024 - 1 - c.args.i ≤ 1024 = omega arith in
    let e = ap (λ (k : ℕ). 1024 - k) (c.before-2.ensures _ _ h (omega arith)) ∙ last_after key _ c.requires.1 in
    let b = last_fits (from_last key) _ _ few (c.before-2.ensures _ _ h (omega arith)) in
    omega (arith, e, b, ap number_after c.in_ok-j.was)
