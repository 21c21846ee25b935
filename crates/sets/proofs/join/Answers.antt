-- `sets::join` meets its contract.
-- Assumes nothing.
use mathlib.Core.Path.{sym}
use Rattle.words.proofs.Sets.Laws.{join_or}
use Rattle.sets.proofs.join.Goals as goal

pub returns : goal.returns
returns c = sym (join_or _ _)
