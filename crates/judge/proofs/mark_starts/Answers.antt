-- `judge::mark_starts` meets its contract.
-- Assumes nothing.
use mathlib.Core.Path.{sym, ◌∙◌}
use native.Mathlib.Omega.{arith}
use Rattle.saturation.specs.Held.{saturated_on}
use Rattle.acceptance.specs.Cells.Laws.{states_below}
use Rattle.sound_files.specs.Sound.Laws.{start_long, starts_count}
use Rattle.sound_files.specs.Sound.Rounds.{made_zero}
use Rattle.judge.specs.Marks.Laws.{marks_written}
use Rattle.judge.proofs.mark_starts.Goals as goal

pub start_rounds-requires : goal.start_rounds-requires
start_rounds-requires c =
    let p = c.requires in
    (p.0, p.1, p.2, p.3, omega arith, made_zero 16384)

pub count_of-n-requires : goal.count_of-n-requires
count_of-n-requires c = let l = start_long _ c.requires.3.in_place in omega arith

pub put_marks-requires : goal.put_marks-requires
put_marks-requires c =
    let n = c.count_of-n.ensures.value ∙ sym (starts_count c.args.start.now) in
    let long = c.start_rounds.ensures.long in
    (c.requires.3, n, omega arith, omega arith)

pub returns : goal.returns
returns c =
    marks_written _ (saturated_on c.args.tables.now _ _) (states_below c.requires.0) _ c.requires.3 c.start_rounds.ensures.filled _
    (c.count_of-n.ensures.value ∙ sym (starts_count c.args.start.now)) c.put_marks.ensures
