-- `saturate::saturated_table` meets its contract.
-- Assumes nothing.
use mathlib.Core.Path.{sym, refl}
use Rattle.replies.specs.Numbers.Laws.{numbered}
use Rattle.saturate.specs.Service.Laws.{ends_refused, ends_large, ends_filled}
use borrow.Author.Rules.{rules}
use Rattle.saturate.proofs.saturated_table.Goals as goal

pub returns-in_err-check_case : goal.returns-in_err-check_case
returns-in_err-check_case c =
    let e = c.in_err-check_case in
    let h = ends_refused c.args.case.now c.args.moves.now c.args.entries.now _ _ _ e.ensures (numbered _) c.requires.0 c.requires.1 in
    search (rules, h)

pub returns-in_default : goal.returns-in_default
returns-in_default c =
    let s = c.in_default.ensures in
    ends_large c.args.case.now c.args.moves.now c.args.entries.now (sym c.in_ok-check_case.ensures) _ _ refl refl _ _ s.case_saturated s.moves s.entries

pub returns : goal.returns
returns c =
    let s = c.in-Some.ensures in
    let kept = c.saturate_case.auto in
    ends_filled c.args.case.now c.args.moves.now c.args.entries.now (sym c.in_ok-check_case.ensures) _ _ refl refl
    _ _ _ _ _ _ _ s.case_saturated kept.moves kept.entries
