-- `own_target::root_accepted` meets its contract.
-- Assumes nothing.
use mathlib.Core.Path.{refl, ap, ◌∙◌}
use native.Mathlib.Omega.{arith}
use Rattle.rounds.specs.Won.{is_won}
use Rattle.saturation.specs.Held.{saturated_on}
use Rattle.acceptance.specs.Cells.Laws.{states_below}
use Rattle.sound_files.specs.Sound.Rounds.{made_zero}
use Rattle.own_target.specs.Target.Laws.{made_room, won_in_target}
use Rattle.own_target.proofs.root_accepted.Goals as goal

pub fill_rounds-requires : goal.fill_rounds-requires
fill_rounds-requires c =
    let p = c.requires in
    (p.0, omega arith, omega arith, p.1.cells_there, p.1.formed, made_room 262144 _ _ refl (omega arith), made_zero 262144)

pub returns : goal.returns
returns c =
    let r = c.fill_rounds in
    c.is_won.ensures ∙ ap is_won c.accepted.ensures.value
    ∙ won_in_target (saturated_on c.args.tables.now _ _) (states_below c.requires.0) _ _ r.ensures.filled _ _ c.requires.1.root_exists c.requires.1.root_order
