-- `saturation::run_rounds` meets its contract.
-- Assumes nothing.
use mathlib.Core.Path.{refl}
use Rattle.saturation.specs.Prepared.Laws.{prepared_first}
use Rattle.saturation.specs.Turns.Laws.{underway_first, follows_none, turns_done}
use Rattle.saturation.proofs.run_rounds.Goals as goal

pub loop-r-init : goal.loop-r-init
loop-r-init c = (
  follows_none _ _ _ c.args.z _ _ _ _,
  underway_first _ _ c.args.z _ _ c.requires.0,
  prepared_first _ _ c.args.z _ _ _ _ _ c.requires.0.states_exist c.requires.2 c.requires.3 c.requires.4,
  refl,
  refl,
)

pub returns-in-Break : goal.returns-in-Break
returns-in-Break c =
    turns_done _ _ _ c.args.z _ _ _ _ _ _ _ _ c.loop-r.invariant.0 _ _ _ _ _ _ _ c.take_turn-turn.ensures _ c.in-Break.is
