-- `listing_text::largest_count`: what its loops keep. The invariant: the largest number of moves among the first i entries is known.
use mathlib.Core.Path.{◌≡◌}
use Rattle.services.specs.Memory.{largest}
use Rattle.tables.specs.Rows.{rows_in}
use Rattle.tables.specs.Layouts.{counted_row}
use Rattle.listing_text.proofs.largest_count.Given as goal

abbrev pub invariant-loop-i : goal.invariant-loop-i
invariant-loop-i l = l.most ≡ largest (rows_in counted_row l.i l.entries)
