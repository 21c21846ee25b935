-- `sets::has` meets its contract.
-- Assumes nothing.
use Prim.Native.Nat.{ℕ}
use mathlib.Core.Path.{ap, ◌∙◌}
use Rattle.words.specs.Sets.{part_of}
use Rattle.words.proofs.Sets.Laws.{single_part}
use Rattle.sets.proofs.has.Goals as goal

pub returns : goal.returns
returns c = c.part_of.ensures ∙ ap (λ (k : ℕ). part_of k c.args.s) c.one_bit.ensures.set ∙ single_part _ _
