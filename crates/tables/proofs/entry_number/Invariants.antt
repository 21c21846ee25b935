-- `tables::entry_number`: what its loops keep. The invariant: none of the first i entries is this one.
use Prim.Native.Nat.{ℕ, ◌<◌}
use mathlib.Core.Path.{◌≡◌}
use mathlib.Core.Bool.{false}
use Rattle.automata.specs.Saturation.{is_entry}
use Rattle.tables.specs.Rows.{row_at}
use Rattle.tables.specs.Layouts.{entry_row}
use Rattle.tables.proofs.entry_number.Given as goal

abbrev pub invariant-loop-i : goal.invariant-loop-i
invariant-loop-i l = (j : ℕ) → j < l.i → is_entry l.e.control l.e.s (row_at entry_row l.t j) ≡ false
