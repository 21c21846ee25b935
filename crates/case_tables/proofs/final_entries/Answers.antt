-- `case_tables::final_entries` meets its contract. The invariant: the set is that of the final entries among the first i edges, and the next entry
-- is order-1 state r.
-- Assumes nothing.
use Prim.Native.Nat.{◌+◌, ◌<◌}
use mathlib.Core.Path.{◌≡◌, refl, ap, sym}
use mathlib.Core.List.{map}
use lib.ListN.{length}
use native.Mathlib.Omega.{arith}
use Rattle.words.specs.Lists.{only}
use Rattle.files.specs.Bytes.{records}
use Rattle.files.specs.Case.{EdgeBytes, edge_bytes, entries_of}
use Rattle.bytes_in.specs.Records.{record_at}
use Rattle.case_records.specs.Values.{the_head}
use Rattle.case_file.specs.Laws.Bodies.{entries_more}
use Rattle.case_tables.specs.Decoded.Laws.{entries_within, final_none, final_more}
use borrow.Author.Rules.{rules}
use Rattle.case_tables.proofs.final_entries.Goals as goal

pub loop-i-init : goal.loop-i-init
unfolding records entries_of only
loop-i-init c = (sym (final_none _ _), omega arith, omega arith)

pub final_entry-requires : goal.final_entry-requires
final_entry-requires c =
    λ l.
    let e : (edge_bytes (record_at 4 c.loop-i.i c.args.body.now)).state < c.args.h.controls =
    rw (← ap (λ (x : EdgeBytes). x.state) c.edge_at-e.ensures) l in
    let w = entries_within (the_head c.args.h) c.args.body.now _ _ c.loop-i-test.true e in
    let f : c.loop-i.r ≡ c.args.h.inner1 + length (entries_of (the_head c.args.h) (map edge_bytes (records c.loop-i.i 4 c.args.body.now))) = c.loop-i.invariant.1 in
    omega arith

pub loop-i-preserved : goal.loop-i-preserved
loop-i-preserved c =
    let n = entries_more (the_head c.args.h) c.args.body.now c.loop-i.i _ _ _ refl c.entry_count-r.ensures.value c.edge_at-e.ensures in
    let r : c.loop-i.r ≡ c.args.h.inner1 + length (entries_of (the_head c.args.h) (map edge_bytes (records c.loop-i.i 4 c.args.body.now))) = c.loop-i.invariant.1 in (
      final_more _ _ _ _ _ _ c.loop-i.invariant.0 r c.edge_at-e.ensures c.final_entry.ensures c.join-set.ensures,
      omega arith,
      search rules,
    )
