-- `premises::by_move` meets its contract.
-- Assumes nothing.
use mathlib.Core.Path.{refl}
use Rattle.readings.proofs.Gathering.Laws.{nothing_collected}
use Rattle.premises.specs.Steps.Laws.{step_other, step_control, step_premise}
use Rattle.premises.specs.Settled.Known.{held_premise}
use Rattle.premises.proofs.by_move.Goals as goal
use Rattle.premises.proofs.by_move.Goals.{then-m-from-via-then-m-from, then-m-from-via-else-m-from+then-not-entry_of}

pub returns-then-m-from : goal.returns-then-m-from
returns-then-m-from c =
    let z = c.args.by.now.moves.held.table in
    let number = c.requires.0.stands.number in
    nothing_collected _ _ _ _ _ _ c.requires.0 (elim c.then-m-from.branch [
      | then-m-from-via-then-m-from w ↦ step_other z _ _ _ _ _ _ _ _ _ _ _ _ _ c.move_at-m.ensures number w.if-m-from.true
      | then-m-from-via-else-m-from+then-not-entry_of w ↦ step_control z _ _ _ _ _ _ _ _ _ _ _ _ _ c.move_at-m.ensures number _ w.entry_of.ensures w.if-not-entry_of.true
    ])

pub by_premise-requires : goal.by_premise-requires
by_premise-requires c =
    (c.requires.0, held_premise c.args.by.now.moves.held.table _ _ _ c.args.to c.args.from c.requires.1 _ _ _ _ _ c.requires.2 c.move_at-m.ensures c.if-m-from.false c.entry_of.ensures (c.if-not-entry_of.false) c.entry_set-s.ensures refl)

pub returns : goal.returns
returns c =
    let done = c.by_premise.ensures in
    record {
      collects = step_premise c.args.by.now.moves.held.table _ _ _ _ _ _ _ _ _ _ _ _ _ c.move_at-m.ensures c.requires.0.stands.number _ _ _ _ c.if-m-from.false c.entry_of.ensures (c.if-not-entry_of.false) c.entry_set-s.ensures done.collects;
      memo_holds = done.memo_holds;
    }
