-- `guided_start::walk_from` meets its contract.
-- Assumes nothing.
use native.Mathlib.Omega.{arith}
use Prim.Native.Nat.{ℕ}
use lib.ListN.{length-replicate}
use Rattle.case_file.specs.Forms.Laws.{holds_rules}
use Rattle.tables.specs.View.{automaton_in}
use Rattle.files.proofs.Case.Laws.{case_in_place}
use Rattle.saturation.specs.Held.{saturated_by}
use Rattle.saturate.specs.Case.Laws.{long_enough}
use Rattle.sound_files.specs.Sound.Laws.{start_long}
use Rattle.guided_start.specs.Walk.Laws.{prepared, cells_number, walk_starts, run_stands, walk_leaves}
use Rattle.guided_start.proofs.walk_from.Goals as goal

pub count_of-n-requires : goal.count_of-n-requires
count_of-n-requires c = start_long _ c.requires.0.start_is.in_place

pub put_start_cells-requires : goal.put_start_cells-requires
put_start_cells-requires c =
    let p = c.requires in
    let b = c.cell_body-body.ensures in
    let n = c.count_of-n.ensures.value in
    let e = cells_number _ b n in
    let room = p.3 in
    let lent = p.4 in
    (prepared _ b n c.args.run.now p.0, omega arith)

pub put_rules-requires : goal.put_rules-requires
put_rules-requires c = (case_in_place _ c.requires.0.case_sound, omega (arith, length-replicate {A = ℕ} 1280 0))

pub count_of-requires : goal.count_of-requires
count_of-requires c = let l = long_enough _ c.requires.0.case_sound in omega arith

pub invariant_of-rules : goal.invariant_of-rules
invariant_of-rules c =
    let h = holds_rules _ (case_in_place _ c.requires.0.case_sound) c.count_of.ensures.value c.put_rules.ensures in
    record { rules_lent = h.rules_fit }

pub walk-requires-clause-run_stands : goal.walk-requires-clause-run_stands
walk-requires-clause-run_stands c =
    let p = c.requires in
    let h = holds_rules _ (case_in_place _ p.0.case_sound) c.count_of.ensures.value c.put_rules.ensures in
    run_stands _ p.0.case_sound h p.0.tables (omega arith) p.5

pub walk-requires-clause-cells_le_most : goal.walk-requires-clause-cells_le_most
walk-requires-clause-cells_le_most c =
    let p = c.requires in
    let e = cells_number _ c.cell_body-body.ensures c.count_of-n.ensures.value in
    let w = c.start-w.ensures in
    let cells = w.2 in
    let long = c.put_start_cells.auto.cells in
    let room = p.3 in
    let lent = p.4 in
    (omega arith, w.3, p.2)

pub returns : goal.returns
returns c =
    let w = c.start-w in
    walk_leaves _ c.requires.0.case_sound (holds_rules _ (case_in_place _ c.requires.0.case_sound) c.count_of.ensures.value c.put_rules.ensures) (saturated_by c.args.run.now) _ _
    (walk_starts _ c.cell_body-body.ensures c.count_of-n.ensures.value (automaton_in c.args.run.now.tables) w.result _
    w.ensures.0 w.ensures.1 w.ensures.2 c.put_start_cells.ensures)
    c.walk.ensures
