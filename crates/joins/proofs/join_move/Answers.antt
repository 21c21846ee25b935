-- `joins::join_move` meets its contract.
-- Assumes nothing.
use mathlib.Core.Path.{sym, ◌∙◌}
use Rattle.joins.specs.Joining.Laws.{joins_clash, joins_both}
use Rattle.joins.proofs.join_move.Goals as goal

pub returns-then-clashes : goal.returns-then-clashes
returns-then-clashes c = sym (joins_clash _ _ (sym c.clashes.ensures ∙ c.if-clashes.true))

pub returns : goal.returns
returns c =
    joins_both _ _ (sym c.clashes.ensures ∙ c.if-clashes.false) c.max.ensures c.join.ensures c.join-2.ensures
