-- `guided_step::result_of` meets its contract.
-- Assumes nothing.
use Rattle.guided_step.specs.Earlier.Laws.{result_is}
use Rattle.guided_step.proofs.result_of.Goals as goal

pub returns : goal.returns
returns c = result_is _ _ c.entry_for-e.ensures
