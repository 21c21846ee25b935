-- `sets::none_below` meets its contract.
-- Assumes nothing.
use Prim.Native.Nat.{ℕ, ◌%◌}
use mathlib.Core.Path.{ap, sym, ◌∙◌}
use lib.Dec.{eqb}
use Rattle.sets.specs.Laws.Bounds.{every_from}
use Rattle.sets.proofs.none_below.Goals as goal

pub returns : goal.returns
returns c = ap (λ (k : ℕ). eqb (c.args.s % k) 0) c.one_bit.ensures.value ∙ sym (every_from _ _)
