-- `results::entry_result` meets its contract.
-- Assumes nothing.
use Rattle.results.specs.Entries.Laws.{is_popped, is_collapsed}
use Rattle.results.proofs.entry_result.Goals as goal

pub returns-in-Popped : goal.returns-in-Popped
returns-in-Popped c = is_popped _ _ _ _ _ _ _ c.in-Popped.is c.one_bit-bit.ensures.set c.result.ensures

pub returns-in-Collapsed : goal.returns-in-Collapsed
returns-in-Collapsed c = is_collapsed _ _ _ _ _ _ _ c.in-Collapsed.is c.one_bit-bit.ensures.set c.result-in-Collapsed.ensures
