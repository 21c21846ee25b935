-- `case_tables::load_moves` meets its contract. The invariant: the first i moves are written and counted.
-- Assumes nothing.
use mathlib.Core.Path.{◌≡◌}
use native.Mathlib.Omega.{arith}
use Rattle.files.specs.Bytes.{records}
use Rattle.case_tables.specs.WrittenRows.{written}
use Rattle.case_tables.specs.Decoded.Laws.{moves_more}
use Rattle.case_tables.specs.Counting.Laws.{so_none, so_step, so_small, so_whole}
use borrow.Author.Rules.{rules}
use Rattle.case_tables.proofs.load_moves.Goals as goal

pub loop-i-init : goal.loop-i-init
unfolding written records
loop-i-init c = (search rules, search rules, so_none _ _ _ c.requires.4)

pub count_move-requires : goal.count_move-requires
count_move-requires c =
    let so_far = c.loop-i.invariant.2 in
    let long = so_far.long in
    (omega (arith, long, c.requires.3), λ k l. so_small _ _ _ _ _ _ so_far (omega (arith, c.requires.1)) k (omega (arith, l)))

pub loop-i-preserved : goal.loop-i-preserved
loop-i-preserved c = (
  moves_more _ _ _ _ _ _ c.loop-i.invariant.0 c.move_at-m.ensures c.put_move.ensures,
  search rules,
  so_step _ _ _ _ _ _ c.loop-i.invariant.2 _ _ c.requires.3 c.move_at-m.ensures c.count_move.ensures,
)

pub returns-clause-entries_after : goal.returns-clause-entries_after
returns-clause-entries_after c =
    let e : c.loop-i.i ≡ c.args.n = omega arith in
    rw e at (so_whole _ _ _ _ _ c.requires.3 c.loop-i.invariant.2)
