-- `brackets::put_start` meets its contract.
-- Assumes nothing.
use mathlib.Core.Path.{ap}
use native.Mathlib.Omega.{arith}
use Rattle.services.specs.Brackets.{stack_text}
use Rattle.bounded_text.specs.Page.Laws.{prints_same}
use Rattle.sound_files.specs.Sound.Laws.{start_long, start_lent}
use Rattle.brackets.specs.Service.Laws.{cells_stand, root_there, root_order, root_stack}
use Rattle.brackets.proofs.put_start.Goals as goal

pub start_at-x-requires : goal.start_at-x-requires
start_at-x-requires c = start_lent _ c.requires.0 c.requires.1 c.start_body.ensures

pub count_of-count-requires : goal.count_of-count-requires
count_of-count-requires c = omega (arith, start_long _ c.requires.0.in_place)

pub put_stack-requires : goal.put_stack-requires
put_stack-requires c =
    let f = c.requires.0 in
    let t = c.requires.1 in
    let s = c.start_body.ensures in
    let e = c.start_at-x.ensures in
    let b = c.cell_body.ensures in
    let n = c.count_of-count.ensures.value in
    (cells_stand _ f t s e b n, root_there _ f t s e b n, root_order _ f t s e b n)

pub returns : goal.returns
returns c =
    let r = root_stack _ c.requires.0 c.requires.1 c.start_body.ensures c.start_at-x.ensures c.cell_body.ensures c.count_of-count.ensures.value in
    prints_same (ap stack_text r) c.put_stack.ensures
