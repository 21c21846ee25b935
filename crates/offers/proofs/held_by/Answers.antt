-- `offers::held_by` meets its contract.
-- Assumes nothing.
use mathlib.Core.Path.{refl}
use Rattle.offers.specs.Holding.Laws.{other_control, other_set, same_entry}
use Rattle.offers.proofs.held_by.Goals as goal
use Rattle.offers.proofs.held_by.Goals.{then-e-x-via-then-e-x, then-e-x-via-else-e-x+then-e-x-2}

pub returns-then-e-x : goal.returns-then-e-x
returns-then-e-x c = elim c.then-e-x.branch [
  | then-e-x-via-then-e-x w ↦ other_control c.args.by.now.table _ _ _ _ _ c.requires c.entry_at-e.ensures w.if-e-x.true
  | then-e-x-via-else-e-x+then-e-x-2 w ↦ other_set c.args.by.now.table _ _ _ _ _ c.requires c.entry_at-e.ensures w.if-e-x.false w.if-e-x-2.true
]

pub returns : goal.returns
returns c =
    same_entry c.args.by.now.table _ _ _ _ _ c.requires c.entry_at-e.ensures _ _ c.if-e-x.false c.if-e-x-2.false refl c.has_move.ensures
