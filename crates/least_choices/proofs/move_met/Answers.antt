-- `least_choices::move_met` meets its contract.
-- Assumes nothing.
use mathlib.Core.Path.{◌∙◌}
use borrow.Author.Tests.{ne_eqb}
use Rattle.tables.specs.Records.{as_move}
use Rattle.least_choices.specs.Starts.Turns.{met_not, met_reads}
use Rattle.least_choices.proofs.move_met.Goals as goal

pub returns-then-m-a : goal.returns-then-m-a
returns-then-m-a c =
    let a = c.args in
    met_reads _ _ _ _ (as_move a.m) c.if-m-a.true c.move_accepted.ensures.value c.is_won.ensures

pub returns-else-m-a : goal.returns-else-m-a
returns-else-m-a c = let a = c.args in ne_eqb _ _ c.if-m-a.false ∙ met_not _ _ _ _ (as_move a.m) c.if-m-a.false
