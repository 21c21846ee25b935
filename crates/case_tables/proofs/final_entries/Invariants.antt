-- `case_tables::final_entries`: what its loops keep. The invariant: the set is that of the final entries among the first i edges, and the next entry
use Prim.Native.Nat.{◌+◌, ◌≤◌}
use mathlib.Core.Path.{◌≡◌}
use mathlib.Core.List.{map}
use lib.ListN.{length}
use Rattle.words.specs.Sets.{set_of}
use Rattle.files.specs.Bytes.{records}
use Rattle.files.specs.Case.{edge_bytes, entries_of, final_entries}
use Rattle.case_records.specs.Values.{the_head}
use Rattle.case_tables.proofs.final_entries.Given as goal

abbrev pub invariant-loop-i : goal.invariant-loop-i
invariant-loop-i l =
    (l.set ≡ set_of (final_entries (the_head l.h) l.h.inner1 (map edge_bytes (records l.i 4 l.body))))
    × (l.r ≡ l.h.inner1 + length (entries_of (the_head l.h) (map edge_bytes (records l.i 4 l.body))))
    × (l.r ≤ l.h.inner1 + l.i)
