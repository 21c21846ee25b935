-- `replay::start_place` meets its contract.
-- Assumes nothing.
use native.Mathlib.Omega.{arith}
use Rattle.sound_files.specs.Sound.Laws.{start_long, start_lent, start_names}
use Rattle.replay.specs.Start.Laws.{body_length, start_stands}
use Rattle.replay.proofs.start_place.Goals as goal

pub copy_cells-requires : goal.copy_cells-requires
copy_cells-requires c = omega (arith, body_length _ c.requires.0 c.cell_body.ensures, c.requires.2)

pub start_at-x-requires : goal.start_at-x-requires
start_at-x-requires c = start_lent _ c.requires.0 c.requires.1 c.start_body.ensures

pub overflow_cast-result : goal.overflow_cast-result
overflow_cast-result c =
    omega (arith, (start_names _ c.requires.0 c.requires.1 c.start_body.ensures {words = 256} (omega arith) c.start_at-x.ensures).0)

pub count_of-requires : goal.count_of-requires
count_of-requires c = omega (arith, start_long _ c.requires.0.in_place)

pub returns : goal.returns
returns c =
    start_stands _ c.requires.0 _ c.cell_body.ensures c.count_of.ensures.value c.requires.2 c.copy_cells.ensures c.requires.1 c.start_body.ensures c.start_at-x.ensures
