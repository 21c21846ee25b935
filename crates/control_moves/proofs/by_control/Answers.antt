-- `control_moves::by_control` meets its contract.
-- Assumes nothing.
use mathlib.Core.Path.{refl, ◌∙◌}
use Rattle.control_moves.specs.Control.Laws.{control_none, control_more, control_all}
use Rattle.control_moves.proofs.by_control.Goals as goal

pub loop-e-init : goal.loop-e-init
loop-e-init c =
    (control_none c.args.by.now.moves.held.table _ _ _ _ _ _ _ _ _ _ _ c.requires.0.stands.number, refl, c.requires.0.memo_holds, refl)

pub loop-e-preserved : goal.loop-e-preserved
loop-e-preserved c =
    let within = c.loop-e-test.true in
    let done = c.by_entry_moves-k in
    let long = done.auto.out in (
      control_more c.args.by.now.moves.held.table _ _ _ _ _ _ _ _ _ _ _ _ _ _ _ _ c.loop-e.invariant.0 within done.ensures.collects long,
      long ∙ c.loop-e.invariant.1,
      done.ensures.memo_holds,
      done.auto.memo ∙ c.loop-e.invariant.3,
    )

pub returns : goal.returns
returns c =
    record { collects = control_all c.args.by.now.moves.held.table _ _ _ _ _ _ _ _ _ _ _ _ _ _ c.loop-e.invariant.0 c.loop-e-test.false; memo_holds = c.loop-e.invariant.2 }
