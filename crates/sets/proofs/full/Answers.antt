-- `sets::full` meets its contract.
-- Assumes nothing.
use Rattle.sets.specs.Full.{full_has}
use Rattle.sets.proofs.full.Goals as goal

pub returns-clause-all : goal.returns-clause-all
returns-clause-all c = full_has 64
