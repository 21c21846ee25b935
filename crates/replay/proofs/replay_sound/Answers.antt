-- `replay::replay_sound` meets its contract.
-- Assumes nothing.
use mathlib.Core.Path.{sym}
use native.Mathlib.Omega.{arith}
use Prim.Native.Nat.{ℕ}
use lib.ListN.{length-replicate}
use Rattle.case_file.specs.Forms.Laws.{holds_rules}
use Rattle.files.proofs.Case.Laws.{case_in_place}
use Rattle.saturate.specs.Case.Laws.{long_enough, rules_are, rules_stand}
use Rattle.replay_trace.specs.Turns.Laws.{length_numbers}
use Rattle.sound_files.specs.Sound.Laws.{start_sound}
use Rattle.replay.specs.Service.Laws.{ended_as, answer_is, from_start}
use borrow.Author.Rules.{rules}
use Rattle.replay.proofs.replay_sound.Goals as goal

pub start_place-w-requires : goal.start_place-w-requires
start_place-w-requires c = (start_sound c.requires.0, c.requires.1, search rules)

pub put_rules-requires : goal.put_rules-requires
put_rules-requires c = (case_in_place _ c.requires.0.sound_case, omega (arith, length-replicate {A = ℕ} 1280 0))

pub count_of-count-requires : goal.count_of-count-requires
count_of-count-requires c = omega (arith, long_enough _ c.requires.0.sound_case)

pub replay_trace-requires : goal.replay_trace-requires
replay_trace-requires c =
    let S = c.start_place-w.ensures in
    (rules_stand _ c.requires.0.sound_case _ _ (holds_rules _ (case_in_place _ c.requires.0.sound_case) c.count_of-count.ensures.value c.put_rules.ensures), S.stands, omega (arith, S.cells_are, c.requires.2), search rules, search rules)

pub returns-in-Err : goal.returns-in-Err
returns-in-Err c =
    from_start _ _ _ _ _ (rules_are _ c.requires.0.sound_case _ _ (holds_rules _ (case_in_place _ c.requires.0.sound_case) c.count_of-count.ensures.value c.put_rules.ensures)) c.start_place-w.ensures (ended_as _ _ _ _ _ _ c.replay_trace.ensures c.in-Err.is _)

pub returns-in-Ok : goal.returns-in-Ok
returns-in-Ok c =
    let F = ended_as _ _ _ _ _ _ c.replay_trace.ensures c.in-Ok.is in
    from_start _ _ _ _ _ (rules_are _ c.requires.0.sound_case _ _ (holds_rules _ (case_in_place _ c.requires.0.sound_case) c.count_of-count.ensures.value c.put_rules.ensures)) c.start_place-w.ensures (answer_is _ F (sym (length_numbers _)) c.answer_at.ensures)
