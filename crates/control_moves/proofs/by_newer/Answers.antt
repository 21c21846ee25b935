-- `control_moves::by_newer` meets its contract.
-- Assumes nothing.
use mathlib.Core.Path.{refl, ◌∙◌}
use Rattle.premises.specs.Steps.Laws.{moves_more, moves_all}
use Rattle.control_moves.proofs.First.Laws.{below_past}
use Rattle.control_moves.proofs.by_newer.Goals as goal

pub loop-i-init : goal.loop-i-init
loop-i-init c =
    (below_past c.args.by.now.moves.held.table _ _ _ _ _ _ _ _ _ c.requires.2 c.requires.0.stands.number, refl, c.requires.0.memo_holds, refl)

pub loop-i-preserved : goal.loop-i-preserved
loop-i-preserved c =
    let within = c.loop-i-test.true in
    let done = c.by_move-k in
    let long = done.auto.out in (
      moves_more c.args.by.now.moves.held.table _ _ _ _ _ _ _ _ _ _ _ _ _ _ _ _ c.loop-i.invariant.0 within done.ensures.collects long,
      long ∙ c.loop-i.invariant.1,
      done.ensures.memo_holds,
      done.auto.memo ∙ c.loop-i.invariant.3,
    )

pub returns : goal.returns
returns c =
    record { collects = moves_all c.args.by.now.moves.held.table _ _ _ _ _ _ _ _ _ _ _ _ _ _ c.loop-i.invariant.0 c.loop-i-test.false; memo_holds = c.loop-i.invariant.2 }
