-- `listing_text::largest_count` meets its contract. The invariant: the largest number of moves among the first i entries is known.
-- Assumes nothing.
use Prim.Native.Nat.{max}
use mathlib.Core.Path.{refl, ap, ap₂, sym, ◌∙◌}
use Rattle.services.specs.Memory.{largest}
use Rattle.services.specs.Memory.Counts.{largest_more}
use Rattle.tables.specs.Rows.{first_of, row_at, rows_in}
use Rattle.tables.specs.Rows.Laws.{rows_in_more}
use Rattle.tables.specs.Layouts.{counted_row}
use Rattle.listing_text.proofs.largest_count.Goals as goal

pub loop-i-init : goal.loop-i-init
unfolding rows_in first_of largest
loop-i-init c = refl

pub loop-i-preserved : goal.loop-i-preserved
loop-i-preserved c =
    let rows = rows_in_more counted_row c.loop-i.i c.args.entries.now in
    let more = largest_more (rows_in counted_row c.loop-i.i c.args.entries.now) (row_at counted_row c.args.entries.now c.loop-i.i) in
    c.max-most.ensures ∙ ap₂ max c.loop-i.invariant c.count_at.ensures ∙ sym (ap largest rows ∙ more)
