-- `cell_steps::topping` meets its contract.
-- Assumes nothing.
use Prim.Native.Nat.{◌-◌}
use mathlib.Core.Path.{◌≡◌}
use native.Mathlib.Omega.{arith}
use Rattle.cell_memory.specs.Memory.{cell_of}
use Rattle.cell_steps.specs.Steps.Laws.{at_first, at_next}
use Rattle.cell_steps.proofs.topping.Goals as goal

pub returns-then-i-eq0 : goal.returns-then-i-eq0
unfolding cell_of
returns-then-i-eq0 c = at_first _ _ c.if-i-eq0.true

pub returns : goal.returns
unfolding cell_of
returns c =
    let z : c.args.i - 1 ≡ 0 = omega (arith, c.requires) in
    at_next _ _ _ c.if-i-eq0.false (at_first _ _ z)
