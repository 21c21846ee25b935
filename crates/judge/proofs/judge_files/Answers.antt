-- `judge::judge_files` meets its contract.
-- Assumes nothing.
use mathlib.Core.Path.{refl, sym}
use native.Mathlib.Omega.{arith}
use lib.ListN.{length}
use Rattle.replies.specs.Numbers.Laws.{numbered}
use Rattle.services.specs.Judge.{more_to_add}
use Rattle.sound_files.specs.Refusal.Laws.{sound_before, not_below}
use Rattle.sound_files.specs.Sound.Laws.{start_sound}
use Rattle.sound_files.specs.Saturated.Laws.{table_there, table_none, table_stands}
use Rattle.judge.specs.Service.{judge_input}
use Rattle.judge.specs.Service.Left.{left_refused, left_exceeded, left_judged}
use borrow.Author.Rules.{rules}
use Rattle.judge.proofs.judge_files.Goals as goal

pub returns-in_err-answers_refusal : goal.returns-in_err-answers_refusal
returns-in_err-answers_refusal c =
    let p = c.requires in
    let x = c.args in
    let input = judge_input x.case.now x.start.now x.rounds (length x.moves.now) (length x.entries.now) (length x.answers.now) in
    let h = left_refused input refl c.in_err-answers_refusal.ensures (numbered _) p.0 p.1 p.2 in
    search (rules, h)

pub saturate_case-requires : goal.saturate_case-requires
saturate_case-requires c =
    let p = c.requires in
    let sound = sound_before _ _ _ _ _ (sym c.in_ok-answers_refusal.ensures) in
    (sound.sound_case, record { entries_zero = p.1; moves_zero = p.0; inner_room = omega arith; sizes_room = omega arith })

pub returns-in_default : goal.returns-in_default
returns-in_default c =
    let none = sym c.in_ok-answers_refusal.ensures in
    let s = c.in_default.ensures in
    left_exceeded _ (sound_before _ _ _ _ _ none) (not_below _ _ _ _ _ none (omega arith)) refl refl s.moves s.entries (table_none _ _ _ _ s.case_saturated) c.requires.2

pub mark_starts-requires : goal.mark_starts-requires
mark_starts-requires c =
    let none = sym c.in_ok-answers_refusal.ensures in
    let sound = sound_before _ _ _ _ _ none in
    let s = c.in-Some.ensures.case_saturated in
    let few = s.sizes_few in (
      table_stands s sound.sound_case,
      omega arith,
      omega arith,
      start_sound sound,
      not_below _ _ _ _ _ none (omega arith),
    )

pub returns : goal.returns
unfolding more_to_add
returns c =
    let none = sym c.in_ok-answers_refusal.ensures in
    let z = c.zero_tables.ensures in
    let k = c.saturate_case.auto in
    let s = c.in-Some.ensures.case_saturated in
    left_judged _ (sound_before _ _ _ _ _ none) (not_below _ _ _ _ _ none (omega arith)) k.moves k.entries z.0 z.1
    (table_there s) c.requires.2 s.more_is c.mark_starts.ensures s.count
