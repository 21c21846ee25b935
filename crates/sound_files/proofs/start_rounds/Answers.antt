-- `sound_files::start_rounds` meets its contract.
-- Assumes nothing.
use native.Mathlib.Omega.{arith}
use Rattle.sound_files.specs.Sound.Laws.{start_long, cells_lent_holds}
use Rattle.sound_files.specs.Sound.Rounds.{cells_formed, rounds_filled}
use Rattle.sound_files.proofs.start_rounds.Goals as goal

pub count_of-n-requires : goal.count_of-n-requires
count_of-n-requires c = let l = start_long _ c.requires.3.in_place in omega arith

pub fill_rounds-requires : goal.fill_rounds-requires
fill_rounds-requires c =
    let p = c.requires in
    let n = c.count_of-n.ensures.value in
    let b = c.cell_body-cells.ensures in
    let l = cells_lent_holds _ p.3.in_place {words = 256} n b (omega arith) in
    let few = l.1 in
    let room = p.4 in
    (p.0, p.1, p.2, l.0, cells_formed _ b n p.3, omega arith, p.5)

pub returns : goal.returns
returns c = rounds_filled _ c.cell_body-cells.ensures c.count_of-n.ensures.value c.fill_rounds.ensures
