-- `case_file::entries_in`: what its loops keep. The invariant: the count is the number of entries among the first i edges.
use Prim.Native.Nat.{◌≤◌}
use mathlib.Core.Path.{◌≡◌}
use mathlib.Core.List.{map}
use lib.ListN.{length}
use Rattle.files.specs.Bytes.{records}
use Rattle.files.specs.Case.{edge_bytes, entries_of}
use Rattle.case_records.specs.Values.{the_head}
use Rattle.case_file.proofs.entries_in.Given as goal

abbrev pub invariant-loop-i : goal.invariant-loop-i
invariant-loop-i l = (l.count ≡ length (entries_of (the_head l.h) (map edge_bytes (records l.i 4 l.body)))) × (l.count ≤ l.i)
