-- `added_results::add_result` meets its contract.
-- Assumes nothing.
use Prim.Native.Nat.{◌+◌}
use mathlib.Core.Path.{refl}
use native.Mathlib.Nat.{le-max_right}
use native.Mathlib.Omega.{arith}
use Rattle.tables.specs.Records.{as_result}
use Rattle.added_results.specs.Adding.Laws.{added_over, counts_over, counts_none, row_there, count_small, added_one, counts_one}
use borrow.Author.Rules.{rules}
use Rattle.added_results.proofs.add_result.Goals as goal

pub returns-in_err-i-clause-added : goal.returns-in_err-i-clause-added
returns-in_err-i-clause-added c =
    let entered = c.in_err-i.ensures.entered in
    let few = c.requires.0.entries_few in
    rw c.from_residual.ensures (added_over c.args.z _ _ _ (as_result c.args.x) _ _ entered few (c.in_err-i.ensures.full refl))

pub returns-in_err-i-clause-counted : goal.returns-in_err-i-clause-counted
returns-in_err-i-clause-counted c =
    let z = c.args.z in
    let x = as_result c.args.x in
    let entered = c.in_err-i.ensures.entered in
    let few = c.requires.0.entries_few in
    let full = c.in_err-i.ensures.full refl in
    let over = added_over z _ _ _ x _ _ entered few full in
    rw c.from_residual.ensures (counts_none z _ _ _ x _ (entered.kept full) few over (counts_over z _ _ _ x _ _ entered few full c.requires.2))

pub raise_count-requires : goal.raise_count-requires
raise_count-requires c =
    let z = c.args.z in
    let entered = c.in_ok-i.ensures.entered in
    let few = c.requires.0.entries_few in
    let below = c.in_ok-i.ensures.room in
    let there = row_there z _ _ c.args.moves.now (as_result c.args.x) _ _ entered few below c.requires.0.entries_lent in
    let above = le-max_right z.entries (c.in_ok-i.i + 1) in (
      omega (arith, there),
      count_small z _ _ c.args.moves.now (as_result c.args.x) _ _ entered few below c.requires.1 c.requires.2 (search rules) _ (omega (arith, above)),
    )

pub returns-clause-added : goal.returns-clause-added
returns-clause-added c =
    let entered = c.in_ok-i.ensures.entered in
    let few = c.requires.0.entries_few in
    let below = c.in_ok-i.ensures.room in
    let lent = c.requires.0.entries_lent in
    let room = c.requires.3 in
    added_one c.args.z _ _ _ (as_result c.args.x) _ _ entered few _ _ _ below c.max.ensures lent c.raise_count.ensures room c.put_move.ensures

pub returns-clause-counted : goal.returns-clause-counted
returns-clause-counted c =
    let entered = c.in_ok-i.ensures.entered in
    let few = c.requires.0.entries_few in
    let below = c.in_ok-i.ensures.room in
    let lent = c.requires.0.entries_lent in
    let room = c.requires.3 in
    counts_one c.args.z _ _ _ (as_result c.args.x) _ _ entered few _ _ _ below c.max.ensures lent c.raise_count.ensures room c.put_move.ensures c.requires.1 c.requires.2
