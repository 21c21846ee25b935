-- `first_derivation::entry_joins` meets its contract.
-- Assumes nothing.
use mathlib.Core.Bool.{Bool}
use mathlib.Core.Path.{ap, sym, ◌∙◌}
use Rattle.words.specs.Order.{same}
use Rattle.tables.specs.Records.{as_result}
use Rattle.first_reading.specs.Search.{joins_key, wanted}
use Rattle.first_derivation.specs.Search.{entry_joins}
use Rattle.first_derivation.proofs.entry_joins.Goals as goal

pub returns-then-collapse : goal.returns-then-collapse
unfolding entry_joins
returns-then-collapse c =
    c.annotation_is.ensures ∙ sym (ap (λ (t : Bool). same (joins_key (entry_joins t c.args.r)) (wanted (as_result c.args.x))) c.if-collapse.true)

pub returns : goal.returns
unfolding entry_joins
returns c =
    c.rest_is.ensures ∙ sym (ap (λ (t : Bool). same (joins_key (entry_joins t c.args.r)) (wanted (as_result c.args.x))) c.if-collapse.false)
