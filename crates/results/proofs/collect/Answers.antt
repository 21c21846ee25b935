-- `results::collect` meets its contract.
-- Assumes nothing.
use mathlib.Core.Path.{refl, ◌∙◌, subst}
use native.Mathlib.Omega.{arith}
use Rattle.tables.specs.Rows.Laws.{length_rows_in}
use Rattle.tables.specs.Layouts.{move_row}
use Rattle.readings.specs.Memo.{MemoUpTo}
use Rattle.readings.specs.Memo.Laws.{memo_none}
use Rattle.results.specs.Collecting.Laws.{rules_none, rules_more, rules_all, next_small, settled_rule}
use borrow.Author.Rules.{rules}
use Rattle.results.proofs.collect.Goals as goal

pub loop-i-init : goal.loop-i-init
loop-i-init c =
    (search rules, rules_none _ _ _ _, memo_none c.requires.0.memo_before, refl)

pub by_rule-n-requires : goal.by_rule-n-requires
by_rule-n-requires c =
    let rule = c.rule_at-rule.ensures in (
      record {
        stands = record { room_lent = omega (arith, c.requires.1, c.loop-i.invariant.1.long); number = c.loop-i.invariant.1.offered.number };
        memo_holds = c.loop-i.invariant.2;
      },
      settled_rule _ _ _ _ _ _ c.loop-i-test.true rule c.requires.0.settled_by,
      c.new_symbols-symbols.ensures,
      next_small _ _ _ _ c.requires.0.rules_stand c.loop-i-test.true rule,
      c.requires.0.none_settled,
    )

pub loop-i-preserved : goal.loop-i-preserved
loop-i-preserved c =
    let done = c.by_rule-n in (
      omega (arith, c.loop-i-test.true),
      rules_more _ _ _ _ _ _ _ _ _ _ c.loop-i.invariant.1 c.rule_at-rule.ensures done.ensures.collects done.auto.out,
      done.ensures.memo_holds,
      done.auto.memo ∙ c.loop-i.invariant.3,
    )

pub returns-clause-out_after : goal.returns-clause-out_after
returns-clause-out_after c =
    let done = c.loop-i.invariant in
    rules_all _ _ _ _ _ _ _ _ done.1 done.0 c.loop-i-test.false

pub returns-clause-memo : goal.returns-clause-memo
returns-clause-memo c =
    let few = length_rows_in move_row c.args.by.now.moves.held.table.moves c.args.by.now.moves.held.moves.now in
    let done = c.loop-i.invariant in
    subst (λ k. MemoUpTo k c.loop-i.memo) few done.2.up_to
