-- `replay_step::replay_step` meets its contract.
-- Assumes nothing.
use mathlib.Core.Path.{ap, sym, ◌∙◌}
use native.Mathlib.Omega.{arith}
use Rattle.results.specs.Collecting.Laws.{next_small}
use Rattle.cell_steps.specs.Steps.Laws.{rule_symbols}
use Rattle.replay_step.specs.Top.{found_top}
use Rattle.replay_step.specs.Place.Laws.{place_none, missing_rule, taken_not, by_number}
use borrow.Author.Rules.{rules}
use Rattle.replay_step.proofs.replay_step.Goals as goal

pub returns-then-count-at : goal.returns-then-count-at
returns-then-count-at c = missing_rule _ _ _ _ (search rules)

pub step_by-requires-clause-place_stands : goal.step_by-requires-clause-place_stands
step_by-requires-clause-place_stands c =
    let pre = c.requires in
    let rule = c.rule_at-rule.ensures in
    let bytes = c.type_inv.body in
    let small = rule_symbols _ _ (λ i. omega (arith, bytes i)) rule in
    let told = c.in-Some.is in
    let top = c.top_in.ensures in
    let there = c.if-count-at.false in
    (pre.1, ap found_top (sym told) ∙ top, small.0, small.1, next_small _ _ _ _ pre.0 there rule)

pub returns-in-None : goal.returns-in-None
returns-in-None c =
    taken_not _ _ _ c.if-count-at.false c.rule_at-rule.ensures _ (place_none c.requires.1 (ap found_top (sym c.in-None.is) ∙ c.top_in.ensures) _)

pub returns-in-Some : goal.returns-in-Some
returns-in-Some c =
    by_number _ _ _ c.if-count-at.false c.rule_at-rule.ensures _ c.args.w _ c.step_by.result _ c.step_by.ensures
