-- `case_file::records_right` meets its contract.
-- Assumes nothing.
use Rattle.std.proofs.Common.{rules}
use Rattle.files.specs.Case.{records_right, states1}
use Rattle.files.specs.Case.Records.{head_bounds}
use Rattle.case_file.proofs.records_right.Goals as goal

pub states_of-states-requires : goal.states_of-states-requires
states_of-states-requires c = (c.requires.0, (head_bounds _ c.requires.1).inner1_few)

pub returns-then-few : goal.returns-then-few
unfolding records_right states1
returns-then-few c = rw (← c.requires.2, ← c.states_of-states.ensures) (search rules)

pub returns-else-few : goal.returns-else-few
unfolding records_right states1
returns-else-few c = rw (← c.requires.2, ← c.states_of-states.ensures) (search rules)
