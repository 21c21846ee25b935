-- `first_derivation::first_derivation` meets its contract.
-- Assumes nothing.
use Rattle.first_reading.specs.Answer.Laws.{same_refl, same_after, passed_none, passed_more}
use Rattle.first_derivation.specs.Premises.Loops.{finds_from}
use Rattle.first_derivation.specs.Derived.Small.{states_small}
use Rattle.first_derivation.specs.Derived.Laws.{first_missing, rule_fails, rule_found}
use Rattle.first_derivation.proofs.first_derivation.Goals as goal

pub loop-i-init : goal.loop-i-init
loop-i-init c =
    let small = states_small _ _ _ _ c.args.tables.now.edges_stand c.args.tables.now.entries_stand c.words_fit.ensures.fits c.words_fit-2.ensures.fits in
    (passed_none, same_refl _, same_refl _, small)

pub returns-in-Some-clause-finds_first : goal.returns-in-Some-clause-finds_first
returns-in-Some-clause-finds_first c =
    let inv = c.loop-i.invariant in
    let found = finds_from _ _ inv.1 inv.2 c.by_rule.ensures in
    rule_found _ _ _ _ _ _ c.rule_at-rule.ensures c.in-Some.is inv.0 c.loop-i-test.true found

pub returns-in-Some-clause-small : goal.returns-in-Some-clause-small
returns-in-Some-clause-small c = c.loop-i.invariant.3

pub loop-i-preserved : goal.loop-i-preserved
loop-i-preserved c =
    let inv = c.loop-i.invariant in
    let f = rule_fails _ _ _ _ _ c.rule_at-rule.ensures c.in_default.is c.by_rule.ensures in
    (passed_more inv.0 c.loop-i-test.true f.0, same_after inv.1 f.1, same_after inv.2 f.2, inv.3)

pub returns-clause-finds_first : goal.returns-clause-finds_first
returns-clause-finds_first c =
    let inv = c.loop-i.invariant in
    first_missing _ _ _ _ inv.1 inv.2 inv.0 c.loop-i-test.false

pub returns-clause-small : goal.returns-clause-small
returns-clause-small c = c.loop-i.invariant.3
