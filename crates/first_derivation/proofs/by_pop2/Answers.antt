-- `first_derivation::by_pop2` meets its contract.
-- Assumes nothing.
use mathlib.Core.Path.{sym, ◌∙◌}
use Rattle.first_derivation.specs.Premises.Rules.{none_set, none_joins, none_gives}
use Rattle.first_derivation.proofs.by_pop2.Goals as goal
use Rattle.first_derivation.proofs.by_pop2.Goals.{else-is_single-via-then-is_single+else-is_wanted, else-is_single-via-else-is_single}

pub returns-then-is_wanted : goal.returns-then-is_wanted
returns-then-is_wanted c =
    none_gives _ _ _ (sym c.is_single.ensures ∙ c.if-is_single.true) (sym c.is_wanted.ensures ∙ c.if-is_wanted.true)

pub returns : goal.returns
returns c = elim c.else-is_single.branch [
  | else-is_single-via-then-is_single+else-is_wanted w ↦ none_joins _ _ _ (sym w.is_wanted.ensures ∙ w.if-is_wanted.false)
  | else-is_single-via-else-is_single w ↦ none_set _ _ _ (sym c.is_single.ensures ∙ w.if-is_single.false)
]
