-- `memo_table::holds` meets its contract.
-- Assumes nothing.
use mathlib.Core.Path.{ap, ◌∙◌}
use Rattle.words.specs.Order.{same}
use Rattle.memo_table.specs.declared.State.{State}
use Rattle.memo_table.specs.States.{state_words}
use Rattle.memo_table.specs.States.Laws.{same_fields}
use Rattle.memo_table.proofs.holds.Goals as goal

pub returns : goal.returns
returns c =
    c.eq.ensures ∙ same_fields _ _ ∙ ap (λ (y : State). same (state_words y) (state_words c.args.x)) c.state_at.ensures
