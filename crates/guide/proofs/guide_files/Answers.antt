-- `guide::guide_files` meets its contract.
-- Assumes nothing.
use mathlib.Core.Path.{sym}
use native.Mathlib.Omega.{arith}
use lib.ListN.{length}
use Rattle.replies.specs.Numbers.Laws.{numbered}
use Rattle.services.specs.Judge.{more_to_add}
use Rattle.sound_files.specs.Refusal.Laws.{sound_before, not_past}
use Rattle.sound_files.specs.Sound.Laws.{start_sound}
use Rattle.sound_files.specs.Saturated.Laws.{table_there, table_none}
use Rattle.guided_start.specs.Tables.Laws.{tables_stand}
use Rattle.guided_start.specs.Run.Laws.{leaves_same, run_tables}
use Rattle.guided_start.specs.Run.{guide_input}
use Rattle.guide.specs.Service.Left.{zeros_kept, left_refused, left_exceeded, left_guided}
use Rattle.guide.specs.Service.Won.{won_refused, won_exceeded, won_guided}
use borrow.Author.Rules.{rules}
use Rattle.guide.proofs.guide_files.Goals as goal

pub returns-in_err-number_refusal-clause-trace_after : goal.returns-in_err-number_refusal-clause-trace_after
returns-in_err-number_refusal-clause-trace_after c =
    let p = c.requires in
    let x = c.args in
    let input = guide_input x.case.now x.start.now x.number x.rounds (length x.moves.now) (length x.entries.now) (length x.cells.now) (length x.trace.now) in
    let h = left_refused input p.0 p.1 p.2 c.in_err-number_refusal.ensures (numbered _) p.3 in
    search (rules, h)

pub returns-in_err-number_refusal-clause-won : goal.returns-in_err-number_refusal-clause-won
returns-in_err-number_refusal-clause-won c =
    let x = c.args in
    let h = won_refused x.case.now x.start.now x.number x.rounds (length x.moves.now) (length x.entries.now) c.in_err-number_refusal.ensures (numbered _) in
    search (rules, h)

pub saturate_case-requires : goal.saturate_case-requires
saturate_case-requires c =
    let p = c.requires in
    let sound = sound_before _ _ _ _ _ (sym c.in_ok-number_refusal.ensures) in
    (sound.sound_case, record { entries_zero = p.1; moves_zero = p.0; inner_room = omega arith; sizes_room = omega arith })

pub returns-in_default-clause-trace_after : goal.returns-in_default-clause-trace_after
returns-in_default-clause-trace_after c =
    let p = c.requires in
    let free = sym c.in_ok-number_refusal.ensures in
    let s = c.in_default.ensures in
    left_exceeded _ s.moves s.entries p.2 (sound_before _ _ _ _ _ free) (not_past _ _ _ _ _ free (omega arith)) (table_none _ _ _ _ s.case_saturated) p.3

pub returns-in_default-clause-won : goal.returns-in_default-clause-won
returns-in_default-clause-won c =
    won_exceeded _ _ _ _ _ _ (sound_before _ _ _ _ _ (sym c.in_ok-number_refusal.ensures)) (table_none _ _ _ _ c.in_default.ensures.case_saturated)

pub guide_start-guided-requires : goal.guide_start-guided-requires
unfolding more_to_add
guide_start-guided-requires c =
    let p = c.requires in
    let free = sym c.in_ok-number_refusal.ensures in
    let sound = sound_before _ _ _ _ _ free in
    let s = c.in-Some.ensures.case_saturated in (
      sound.sound_case,
      start_sound sound,
      tables_stand s sound.sound_case (search rules) (search rules),
      not_past _ _ _ _ _ free (omega arith),
      p.3,
      s.more_is,
    )

pub returns-clause-trace_after : goal.returns-clause-trace_after
returns-clause-trace_after c =
    let free = sym c.in_ok-number_refusal.ensures in
    let k = c.saturate_case.auto in
    let g = c.guide_start-guided in
    let z = c.zero_tables.ensures in
    left_guided _ (zeros_kept z.0 k.moves) (zeros_kept z.1 k.entries)
    (zeros_kept c.zero.ensures g.auto.cells) (sound_before _ _ _ _ _ free) (not_past _ _ _ _ _ free (omega arith))
    (table_there c.in-Some.ensures.case_saturated)
    (leaves_same (run_tables _ _ _ _ _ _ _ _ _ _ _) g.ensures.leaves)

pub returns-clause-won : goal.returns-clause-won
returns-clause-won c =
    let free = sym c.in_ok-number_refusal.ensures in
    won_guided _ _ _ _ _ _ (sound_before _ _ _ _ _ free) (not_past _ _ _ _ _ free (omega arith))
    (table_there c.in-Some.ensures.case_saturated) c.guide_start-guided.ensures.won
