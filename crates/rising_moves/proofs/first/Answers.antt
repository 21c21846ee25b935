-- `rising_moves::first` meets its contract.
-- Assumes nothing.
use mathlib.Core.Path.{ap, ◌∙◌}
use Prim.Native.Nat.{ℕ, ◌-◌}
use native.Mathlib.Omega.{arith}
use Rattle.chains.specs.Chains.{number_after, last_below}
use Rattle.rising_moves.specs.Rising.{number_of, from_last}
use Rattle.rising_moves.specs.Rising.Laws.{last_next, last_fits}
use Rattle.rising_moves.proofs.first.Goals as goal

pub returns-in_err-j-clause-next : goal.returns-in_err-j-clause-next
returns-in_err-j-clause-next c =
    λ key h.
    let e = ap (λ (k : ℕ). 1024 - k) (c.last.ensures _ _ h ∙ ap (λ (k : ℕ). last_below (from_last key) k 1024) c.state_key.ensures.value)
    ∙ last_next key _ 0 (omega arith) in
    omega (arith, e, ap number_after c.in_err-j.was, ap number_of c.from_residual.ensures)

pub overflow_sub-result-2 : goal.overflow_sub-result-2
overflow_sub-result-2 c =
    let b = last_fits (from_last c.requires.key) _ 1024 (omega arith) (c.last.ensures _ _ c.requires.rising) in
    omega (arith, b, ap number_after c.in_ok-j.was)

pub returns-clause-next : goal.returns-clause-next
returns-clause-next c =
    λ key h.
    let e = ap (λ (k : ℕ). 1024 - k) (c.last.ensures _ _ h ∙ ap (λ (k : ℕ). last_below (from_last key) k 1024) c.state_key.ensures.value)
    ∙ last_next key _ 0 (omega arith) in
    let b = last_fits (from_last key) _ 1024 (omega arith) (c.last.ensures _ _ h) in
    omega (arith, e, b, ap number_after c.in_ok-j.was)
