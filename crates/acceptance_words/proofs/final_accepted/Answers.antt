-- `acceptance_words::final_accepted` meets its contract.
-- Assumes nothing.
use Rattle.acceptance_words.specs.Rows.Turns.{final_is, final_not}
use Rattle.acceptance_words.proofs.final_accepted.Goals as goal

pub returns-then-has-clause-value : goal.returns-then-has-clause-value
returns-then-has-clause-value c = (final_is _ _ c.if-has.true c.has.ensures).0

pub returns-then-has-clause-small : goal.returns-then-has-clause-small
returns-then-has-clause-small c = (final_is _ _ c.if-has.true c.has.ensures).1

pub returns-clause-value : goal.returns-clause-value
returns-clause-value c = (final_not _ _ c.if-has.false c.has.ensures).0

pub returns-clause-small : goal.returns-clause-small
returns-clause-small c = (final_not _ _ c.if-has.false c.has.ensures).1
