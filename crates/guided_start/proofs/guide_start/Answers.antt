-- `guided_start::guide_start` meets its contract.
-- Assumes nothing.
use mathlib.Core.Path.{◌∙◌}
use native.Mathlib.Omega.{arith}
use Rattle.saturation.specs.Held.{saturated_on}
use Rattle.acceptance.specs.Cells.Laws.{states_below}
use Rattle.sound_files.specs.Sound.Rounds.{made_zero, start_listed, start_since}
use Rattle.guided_start.proofs.guide_start.Goals as goal

pub start_rounds-requires : goal.start_rounds-requires
start_rounds-requires c =
    let p = c.requires in
    (p.2.stands, p.2.sizes_lent, omega arith, p.1, omega arith, made_zero 16384)

pub returns-clause-won : goal.returns-clause-won
returns-clause-won c =
    let p = c.requires in
    c.start_accepted-won.ensures.value
    ∙ start_since (saturated_on c.args.tables.now c.args.count c.args.sizes.now) (states_below p.2.stands) _ p.1 c.start_rounds.ensures.filled _
    (start_listed _ _ p.3)
