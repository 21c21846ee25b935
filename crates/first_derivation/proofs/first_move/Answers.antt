-- `first_derivation::first_move` meets its contract.
-- Assumes nothing.
use mathlib.Core.Path.{◌∙◌}
use Rattle.first_reading.specs.Answer.Laws.{answers_is, answers_fails, answers_from, same_refl, same_after, passed_none, passed_more, passed_all}
use Rattle.first_derivation.specs.Premises.Loops.{moves_below, move_found, finds_from, finds_nothing}
use Rattle.first_derivation.proofs.first_move.Goals as goal

pub loop-i-init : goal.loop-i-init
loop-i-init c = (passed_none, same_refl _, same_refl _)

pub returns-then-try_move : goal.returns-then-try_move
returns-then-try_move c =
    let inv = c.loop-i.invariant in
    move_found _ _ _ _ _ _ _ _ _ inv.0 c.loop-i-test.true (answers_from inv.1 inv.2 (answers_is c.if-try_move.true c.try_move.ensures))

pub loop-i-preserved : goal.loop-i-preserved
loop-i-preserved c =
    let inv = c.loop-i.invariant in
    let f = answers_fails (answers_is c.if-try_move.false c.try_move.ensures) in
    (passed_more inv.0 c.loop-i-test.true f.0, same_after inv.1 f.1, same_after inv.2 f.2)

pub returns : goal.returns
returns c =
    let inv = c.loop-i.invariant in
    let missed = moves_below _ _ _ _ _ _ _ _ _ ∙ passed_all inv.0 c.loop-i-test.false in
    finds_from _ _ inv.1 inv.2 (finds_nothing _ _ _ _ missed)
