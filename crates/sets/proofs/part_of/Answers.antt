-- `sets::part_of` meets its contract.
-- Assumes nothing.
use Prim.Native.Nat.{ℕ}
use mathlib.Core.Path.{ap}
use lib.Dec.{eqb}
use Rattle.words.specs.Sets.{part_of}
use Rattle.sets.proofs.part_of.Goals as goal

pub returns : goal.returns
unfolding part_of
returns c = ap (λ (k : ℕ). eqb k c.args.b) c.join.ensures
