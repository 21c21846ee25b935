-- `tables::put_entry` meets its contract.
-- Assumes nothing.
use native.Mathlib.Numerals.{towards_suc}
use Rattle.services.specs.Memory.{entry_words}
use Rattle.tables.specs.Records.{new_words}
use Rattle.tables.proofs.put_entry.Goals as goal

pub returns : goal.returns
unfolding new_words entry_words
returns c = simp towards_suc
