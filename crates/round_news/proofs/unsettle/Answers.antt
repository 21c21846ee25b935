-- `round_news::unsettle` meets its contract.
-- Assumes nothing.
use mathlib.Core.Path.{sym, ◌∙◌}
use borrow.Author.Tests.{eq-eqb, ne_eqb}
use Rattle.round_news.specs.News.Laws.{unsettled_other, unsettled_out, unsettled_in}
use Rattle.round_news.proofs.unsettle.Goals as goal

pub returns-then-m-a : goal.returns-then-m-a
returns-then-m-a c = sym (unsettled_other _ _ _ (ne_eqb _ _ c.if-m-a.true))

pub returns-then-not-has : goal.returns-then-not-has
returns-then-not-has c = sym (unsettled_out _ _ _ (eq-eqb _ _ c.if-m-a.false) (sym c.has.ensures ∙ c.if-not-has.true))

pub returns : goal.returns
returns c =
    c.without.ensures
    ∙ sym (unsettled_in _ _ _ (eq-eqb _ _ c.if-m-a.false) (sym c.has.ensures ∙ c.if-not-has.false))
