-- `first_derivation::by_move` meets its contract.
-- Assumes nothing.
use mathlib.Core.Path.{ap}
use Rattle.case_records.specs.Values.{the_operation}
use Rattle.first_derivation.specs.Premises.Moves.{rewrite_derives, push1_derives, push2_derives, copy_derives, no_move_gives}
use Rattle.first_derivation.proofs.by_move.Goals as goal

pub returns-in-Rewrite : goal.returns-in-Rewrite
returns-in-Rewrite c =
    let m = c.move_at-m.ensures in
    let s = c.entry_set-s.ensures in
    rewrite_derives _ _ _ _ _ _ _ c.requires.1 _ m _ s _ _ (ap the_operation c.in-Rewrite.is) c.by_rewrite.ensures

pub returns-in-Push1 : goal.returns-in-Push1
returns-in-Push1 c =
    let m = c.move_at-m.ensures in
    let s = c.entry_set-s.ensures in
    push1_derives _ _ _ _ _ _ _ c.requires.1 _ m _ s _ (ap the_operation c.in-Push1.is) c.by_push.ensures

pub returns-in-Push2 : goal.returns-in-Push2
returns-in-Push2 c =
    let m = c.move_at-m.ensures in
    let s = c.entry_set-s.ensures in
    push2_derives _ _ _ _ _ _ _ c.requires.1 _ m _ s _ (ap the_operation c.in-Push2.is) c.join.ensures c.by_push-in-Push2.ensures

pub returns-in-Copy : goal.returns-in-Copy
returns-in-Copy c =
    let m = c.move_at-m.ensures in
    let s = c.entry_set-s.ensures in
    copy_derives _ _ _ _ _ _ _ c.requires.1 _ m _ s (ap the_operation c.in-Copy.is) c.first_edges.ensures

pub returns-in-Pop1 : goal.returns-in-Pop1
returns-in-Pop1 c = no_move_gives _ _ _ _ _ _ c.in-Pop1.is
