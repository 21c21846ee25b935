-- `sets::all_below` meets its contract.
-- Assumes nothing.
use mathlib.Core.Path.{ap, sym, ◌∙◌}
use lib.Dec.{ltb}
use Rattle.sets.specs.Laws.Bounds.{every_below}
use Rattle.sets.proofs.all_below.Goals as goal

pub returns : goal.returns
returns c = ap (ltb c.args.s) c.one_bit.ensures.value ∙ sym (every_below _ _)
