-- `first_derivation::by_collapse2` meets its contract.
-- Assumes nothing.
use mathlib.Core.Path.{sym, ◌∙◌}
use borrow.Author.Tests.{eq-eqb, ne_eqb}
use Rattle.first_derivation.specs.Premises.Rules.{none_set, none_joins, none_gives}
use Rattle.first_derivation.proofs.by_collapse2.Goals as goal
use Rattle.first_derivation.proofs.by_collapse2.Goals.{else-x-eq0-via-then-x-eq0+else-annotation_is, else-x-eq0-via-else-x-eq0}

pub returns-then-annotation_is : goal.returns-then-annotation_is
returns-then-annotation_is c =
    none_gives _ _ _ (eq-eqb _ _ (sym c.if-x-eq0.true)) (sym c.annotation_is.ensures ∙ c.if-annotation_is.true)

pub returns : goal.returns
returns c = elim c.else-x-eq0.branch [
  | else-x-eq0-via-then-x-eq0+else-annotation_is w ↦ none_joins _ _ _ (sym w.annotation_is.ensures ∙ w.if-annotation_is.false)
  | else-x-eq0-via-else-x-eq0 w ↦ none_set _ _ _ (ne_eqb _ _ (λ e. w.if-x-eq0.false (sym e)))
]
