-- `one_round::would_add` meets its contract.
-- Assumes nothing.
use native.Mathlib.Omega.{arith}
use Rattle.one_round.specs.Rounding.Laws.{counted_adds}
use Rattle.results.specs.Collecting.Laws.{round_known}
use Rattle.one_round.proofs.would_add.Goals as goal

pub collect-n-requires : goal.collect-n-requires
collect-n-requires c = (round_known c.requires, omega arith)

pub returns : goal.returns
returns c = counted_adds _ _ _ _ c.collect-n.ensures.out_after
