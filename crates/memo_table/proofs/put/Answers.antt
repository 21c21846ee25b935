-- `memo_table::put` meets its contract.
-- Assumes nothing.
use native.Mathlib.Numerals.{towards_suc}
use Rattle.memo_table.specs.States.{state_words}
use Rattle.memo_table.proofs.put.Goals as goal

pub returns : goal.returns
unfolding state_words
returns c = simp towards_suc
