-- `case_tables::load_entries` meets its contract. The invariant: the entries among the first i edges are written.
-- Assumes nothing.
use Prim.Native.Nat.{◌<◌}
use mathlib.Core.Path.{refl, ap, ◌∙◌}
use native.Mathlib.Omega.{arith}
use Rattle.words.specs.Lists.{only}
use Rattle.files.specs.Bytes.{records}
use Rattle.files.specs.Case.{EdgeBytes, edge_bytes, entries_of}
use Rattle.bytes_in.specs.Records.{record_at}
use Rattle.case_records.specs.Values.{the_head}
use Rattle.case_file.specs.Laws.Bodies.{entries_more}
use Rattle.case_tables.specs.WrittenRows.{written}
use Rattle.case_tables.specs.Decoded.Laws.{entries_within, entries_step}
use borrow.Author.Rules.{rules}
use Rattle.case_tables.proofs.load_entries.Goals as goal

pub loop-i-init : goal.loop-i-init
unfolding written records entries_of only
loop-i-init c = search rules

pub add_entry-k-requires : goal.add_entry-k-requires
add_entry-k-requires c = (
  search rules,
  λ l.
      let e : (edge_bytes (record_at 4 c.loop-i.i c.args.body.now)).state < c.args.h.controls =
      rw (← ap (λ (x : EdgeBytes). x.state) c.edge_at.ensures) l in
      omega (arith, entries_within (the_head c.args.h) c.args.body.now _ _ c.loop-i-test.true e),
)

pub loop-i-preserved : goal.loop-i-preserved
loop-i-preserved c = (
  entries_step _ _ _ _ _ _ _ _ c.loop-i.invariant.0 c.loop-i.invariant.1 c.edge_at.ensures c.add_entry-k.ensures.t_after,
  c.add_entry-k.ensures.value ∙ entries_more _ _ _ _ _ _ c.loop-i.invariant.1 refl c.edge_at.ensures,
  search rules,
  search rules,
)
