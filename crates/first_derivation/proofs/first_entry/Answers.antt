-- `first_derivation::first_entry` meets its contract.
-- Assumes nothing.
use mathlib.Core.Path.{ap, sym, ◌∙◌}
use mathlib.Core.Option.{map}
use Rattle.walks.specs.Guide.{first_or_zero}
use Rattle.first_reading.specs.Answer.Laws.{none_is, passed_none, passed_more, passed_all}
use Rattle.first_derivation.specs.Premises.Loops.{entries_below, entry_found}
use Rattle.first_derivation.proofs.first_entry.Goals as goal

pub loop-e-init : goal.loop-e-init
loop-e-init c = passed_none

pub returns-then-try_entry : goal.returns-then-try_entry
returns-then-try_entry c =
    entry_found c.args.tables.now.table _ _ _ _ c.loop-e.invariant c.loop-e-test.true (sym c.try_entry.ensures ∙ c.if-try_entry.true)

pub loop-e-preserved : goal.loop-e-preserved
loop-e-preserved c =
    passed_more c.loop-e.invariant c.loop-e-test.true (none_is _ (sym c.try_entry.ensures ∙ c.if-try_entry.false))

pub returns : goal.returns
returns c =
    sym (ap (map (λ s. first_or_zero s.premise)) (entries_below c.args.tables.now.table _ _ _ _ ∙ passed_all c.loop-e.invariant c.loop-e-test.false))
