-- `first_derivation::by_rewrite` meets its contract.
-- Assumes nothing.
use mathlib.Core.Path.{sym, ◌∙◌}
use borrow.Author.Tests.{ne_eqb}
use Rattle.first_derivation.specs.Premises.Laws.{rewritten_other, rewritten_same}
use Rattle.first_derivation.proofs.by_rewrite.Goals as goal

pub returns-then-s-x : goal.returns-then-s-x
returns-then-s-x c = c.is_wanted.ensures ∙ sym (rewritten_same _ _ _ c.if-s-x.true)

pub returns-else-s-x : goal.returns-else-s-x
returns-else-s-x c = ne_eqb _ _ c.if-s-x.false ∙ sym (rewritten_other _ _ _ c.if-s-x.false)
