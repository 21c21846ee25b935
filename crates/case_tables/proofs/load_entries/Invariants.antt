-- `case_tables::load_entries`: what its loops keep. The invariant: the entries among the first i edges are written.
use Prim.Native.Nat.{◌≤◌}
use mathlib.Core.Path.{◌≡◌}
use mathlib.Core.List.{map}
use lib.ListN.{length}
use Rattle.files.specs.Bytes.{records}
use Rattle.files.specs.Case.{edge_bytes, entries_of}
use Rattle.tables.specs.Layouts.{entry_row}
use Rattle.case_records.specs.Values.{the_head}
use Rattle.case_tables.specs.WrittenRows.{written}
use Rattle.case_tables.proofs.load_entries.Given as goal

abbrev pub invariant-loop-i : goal.invariant-loop-i
invariant-loop-i l =
    (l.t ≡ written entry_row l.initial.t 0 (entries_of (the_head l.h) (map edge_bytes (records l.i 4 l.body))))
    × (l.k ≡ length (entries_of (the_head l.h) (map edge_bytes (records l.i 4 l.body))))
    × (l.k ≤ l.i)
    × (length l.t ≡ length l.initial.t)
