-- `replay_step::step_by` meets its contract.
-- Assumes nothing.
use mathlib.Core.Path.{◌∙◌, sym}
use native.Mathlib.Omega.{arith}
use Rattle.case_records.specs.Values.{the_operation}
use Rattle.cell_steps.specs.Steps.Laws.{new_few}
use Rattle.replay_step.specs.Top.Laws.{fits_symbol}
use Rattle.replay_step.specs.Place.Laws.{place_not, place_short, place_goes}
use borrow.Author.Rules.{rules}
use Rattle.replay_step.proofs.step_by.Goals as goal

pub returns-then-not-rule_fits : goal.returns-then-not-rule_fits
returns-then-not-rule_fits c =
    place_not c.requires.place_stands.0 _ _ c.requires.place_stands.1 c.order_at-order.ensures (sym c.rule_fits.ensures ∙ c.if-not-rule_fits.true)

pub overflow_add-w : goal.overflow_add-w
overflow_add-w c = omega (arith, new_few (the_operation c.args.rule.operation), c.new_cells.ensures)

pub returns-then-most-w : goal.returns-then-most-w
returns-then-most-w c =
    place_short c.requires.place_stands.0 _ _ c.requires.place_stands.1 c.order_at-order.ensures (sym c.rule_fits.ensures ∙ c.if-not-rule_fits.false) _ (search rules)

pub take_step-requires : goal.take_step-requires
take_step-requires c =
    let f = fits_symbol _ _ _ _ (sym c.rule_fits.ensures ∙ c.if-not-rule_fits.false) in
    search rules

pub returns : goal.returns
returns c =
    place_goes c.requires.place_stands.0 _ _ c.requires.place_stands.1 c.order_at-order.ensures (sym c.rule_fits.ensures ∙ c.if-not-rule_fits.false) _ (search rules) c.take_step.ensures (search rules) (search rules) (search rules)
