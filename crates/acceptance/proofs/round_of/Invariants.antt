-- `acceptance::round_of`: what its loops keep.
use Prim.Native.Nat.{◌≤◌}
use Rattle.automata.specs.Saturation.{round_of}
use Rattle.tables.specs.Rows.{rows_in}
use Rattle.saturation.specs.Layout.{size_row}
use Rattle.acceptance.proofs.round_of.Given as goal

abbrev pub invariant-loop-r : goal.invariant-loop-r
invariant-loop-r l = l.r ≤ round_of (rows_in size_row l.k l.sizes) l.i
