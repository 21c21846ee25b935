-- `saturation::saturate_tables` meets its contract.
-- Assumes nothing.
use native.Mathlib.Omega.{arith}
use Rattle.chains.specs.Chains.Laws.{chained_none}
use Rattle.readings.specs.Memo.Laws.{memo_empty}
use Rattle.saturation.proofs.saturate_tables.Goals as goal

pub run_rounds-requires : goal.run_rounds-requires
run_rounds-requires c = (c.requires.0, c.requires.1, chained_none _, chained_none _, memo_empty _ 138240 (omega arith))
