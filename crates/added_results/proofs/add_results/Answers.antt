-- `added_results::add_results` meets its contract.
-- Assumes nothing.
use Rattle.added_results.specs.Adding.Laws.{up_to_none, still_growing, still_exist, still_room, rows_more, rows_over, rows_counts, rows_all}
use borrow.Author.Rules.{rules}
use Rattle.added_results.proofs.add_results.Goals as goal

pub loop-i-init : goal.loop-i-init
loop-i-init c = (up_to_none c.args.z _ _ _ _ c.requires.0.entries_few, c.requires.2)

pub add_result-requires : goal.add_result-requires
add_result-requires c =
    let z = c.args.z in
    let so_far = c.loop-i.invariant.0 in (
      still_growing z _ _ _ _ _ _ _ _ _ so_far c.requires.0,
      still_exist z _ _ _ _ _ _ _ _ _ so_far c.requires.1,
      c.loop-i.invariant.1,
      still_room z _ _ _ _ _ _ _ _ _ so_far c.loop-i-test.true c.requires.3,
    )

pub returns-in_err-table-clause-added : goal.returns-in_err-table-clause-added
returns-in_err-table-clause-added c =
    let z = c.args.z in
    let over = rows_over z _ _ _ _ _ _ _ _ _ c.loop-i.invariant.0 _ c.loop-i-test.true c.result_at.ensures _ _ c.in_err-table.ensures.added in
    search (rules, over)

pub returns-in_err-table-clause-counted : goal.returns-in_err-table-clause-counted
returns-in_err-table-clause-counted c =
    let z = c.args.z in
    let refused = c.in_err-table.ensures in
    let counts = rows_counts z _ _ _ _ _ _ _ _ _ c.loop-i.invariant.0 _ c.loop-i-test.true c.result_at.ensures _ _ refused.added refused.counted in
    search (rules, counts)

pub loop-i-preserved : goal.loop-i-preserved
loop-i-preserved c =
    let z = c.args.z in
    (rows_more z _ _ _ _ _ _ _ _ _ c.loop-i.invariant.0 _ c.loop-i-test.true c.result_at.ensures _ _ _ c.in_ok-table.ensures.added, c.in_ok-table.ensures.counted)

pub returns-clause-added : goal.returns-clause-added
returns-clause-added c = rows_all c.args.z _ _ _ _ _ _ _ _ _ c.loop-i.invariant.0 c.loop-i-test.false
