-- `tables::entry_number` meets its contract. The invariant: none of the first i entries is this one.
-- Assumes nothing.
use mathlib.Core.Path.{sym, ◌∙◌, ap}
use Rattle.std.proofs.Common.{below_more}
use Rattle.automata.specs.Saturation.{is_entry}
use Rattle.tables.specs.Laws.Searches.{number_found, number_none}
use Rattle.tables.proofs.entry_number.Goals as goal

pub returns-then-eq-clause-number : goal.returns-then-eq-clause-number
unfolding is_entry
returns-then-eq-clause-number c =
    number_found _ _ _ _ _ c.loop-i-test.true c.loop-i.invariant (sym (ap (is_entry _ _) c.entry_at.ensures) ∙ sym c.eq.ensures ∙ c.if-eq.true)

pub loop-i-preserved : goal.loop-i-preserved
unfolding is_entry
loop-i-preserved c =
    below_more _ _ c.loop-i.invariant (sym (ap (is_entry _ _) c.entry_at.ensures) ∙ sym c.eq.ensures ∙ c.if-eq.false)

pub returns-clause-number : goal.returns-clause-number
returns-clause-number c = number_none _ _ _ _ _ c.loop-i-test.false c.loop-i.invariant
