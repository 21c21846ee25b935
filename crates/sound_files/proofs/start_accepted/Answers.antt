-- `sound_files::start_accepted` meets its contract.
-- Assumes nothing.
use native.Mathlib.Omega.{arith}
use Rattle.sound_files.specs.Sound.Laws.{start_lent, start_names}
use Rattle.sound_files.specs.Sound.Rounds.{start_answers}
use Rattle.sound_files.proofs.start_accepted.Goals as goal

pub start_at-x-requires : goal.start_at-x-requires
start_at-x-requires c = let p = c.requires in start_lent _ p.0 p.1 c.start_body.ensures

pub accepted-requires : goal.accepted-requires
accepted-requires c =
    let p = c.requires in
    let n = start_names _ p.0 p.1 c.start_body.ensures {words = 256} (omega arith) c.start_at-x.ensures in
    let root = n.0 in
    let room = p.2 in
    (omega arith, n.1)

pub returns-clause-value : goal.returns-clause-value
returns-clause-value c =
    let p = c.requires in
    start_answers _ _ _ p.1 c.start_body.ensures c.start_at-x.ensures c.accepted.ensures.value
