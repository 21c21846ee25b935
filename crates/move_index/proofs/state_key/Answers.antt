-- `move_index::state_key` meets its contract.
-- Assumes nothing.
use mathlib.Core.Path.{refl}
use Rattle.move_index.specs.Keys.{state_key}
use Rattle.move_index.proofs.state_key.Goals as goal

pub returns-clause-value : goal.returns-clause-value
unfolding state_key
returns-clause-value c = refl
