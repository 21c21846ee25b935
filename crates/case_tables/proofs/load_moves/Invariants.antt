-- `case_tables::load_moves`: what its loops keep. The invariant: the first i moves are written and counted.
use mathlib.Core.Path.{◌≡◌}
use mathlib.Core.List.{map}
use lib.ListN.{length}
use Rattle.files.specs.Bytes.{records}
use Rattle.files.specs.Case.{move_of}
use Rattle.tables.specs.Layouts.{move_row}
use Rattle.case_tables.specs.WrittenRows.{written}
use Rattle.case_tables.specs.Counting.Laws.{CountedSo}
use Rattle.case_tables.proofs.load_moves.Given as goal

abbrev pub invariant-loop-i : goal.invariant-loop-i
invariant-loop-i l =
    (l.t ≡ written move_row l.initial.t 0 (map move_of (records l.i 19 l.body)))
    × (length l.t ≡ length l.initial.t)
    × CountedSo l.inner1 l.known l.initial.entries l.entries (map move_of (records l.i 19 l.body))
