-- `tables::put_move` meets its contract.
-- Assumes nothing.
use native.Mathlib.Numerals.{towards_suc}
use Rattle.services.specs.Memory.{move_words}
use Rattle.tables.proofs.put_move.Goals as goal

pub returns : goal.returns
unfolding move_words
returns c = simp towards_suc
