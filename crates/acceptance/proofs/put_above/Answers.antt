-- `acceptance::put_above` meets its contract.
-- Assumes nothing.
use native.Mathlib.Omega.{arith}
use Rattle.tables.specs.Held.Laws.{length_edges_in}
use Rattle.acceptance.specs.Put.Turns.{above_none, above_more, above_all}
use Rattle.acceptance.specs.Named.Laws.{edge_small}
use Rattle.acceptance.proofs.put_above.Goals as goal

pub loop-n-init : goal.loop-n-init
loop-n-init c = above_none _ _ _ c.requires.4

pub put_earlier-requires : goal.put_earlier-requires
put_earlier-requires c =
    let p = c.requires in
    let room = p.3 in
    let count = c.edge_count-n-end.ensures in
    let l = c.loop-n-test.true in
    let e = c.edge_of-e.ensures.result_value in
    (omega arith, edge_small c.args.tables.now.table _ _ _ p.0 (omega arith) e, c.edge_accepted-won.ensures.small)

pub loop-n-preserved : goal.loop-n-preserved
loop-n-preserved c =
    let t = c.args.tables.now in
    let p = c.requires in
    let count = c.edge_count-n-end.ensures in
    let l = c.loop-n-test.true in
    let e = c.edge_of-e.ensures.result_value in
    let n = length_edges_in t.table t.inner.now t.entries.now in
    above_more _ _ c.loop-n.invariant p.3 p.1 p.2 (omega arith) e (edge_small t.table _ _ _ p.0 (omega arith) e) c.edge_accepted-won.ensures.value
    c.put_earlier.ensures

pub returns : goal.returns
returns c =
    let t = c.args.tables.now in
    let count = c.edge_count-n-end.ensures in
    let n = length_edges_in t.table t.inner.now t.entries.now in
    above_all _ _ _ c.loop-n.invariant (omega arith)
