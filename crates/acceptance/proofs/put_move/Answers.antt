-- `acceptance::put_move` meets its contract.
-- Assumes nothing.
use Rattle.tables.specs.Records.{as_move}
use Rattle.acceptance_words.specs.Rows.Turns.{later_both}
use Rattle.acceptance.specs.Put.Turns.{since_is, move_reads, move_skips}
use Rattle.acceptance.proofs.put_move.Goals as goal

pub put_earlier-requires : goal.put_earlier-requires
put_earlier-requires c =
    let p = c.requires in
    (p.2, p.3, (later_both c.later-won.ensures (since_is _ p.4) (c.move_accepted-parts.ensures.value, c.move_accepted-parts.ensures.small)).1)

pub returns-then-m-a : goal.returns-then-m-a
returns-then-m-a c =
    let a = c.args in
    move_reads a.rounds.now _ _ _ _ _ _ (as_move a.m) c.if-m-a.true c.move_accepted-parts.ensures.value c.later-won.ensures c.put_earlier.ensures

pub returns-else-m-a : goal.returns-else-m-a
returns-else-m-a c = let a = c.args in move_skips a.rounds.now _ _ _ _ _ _ (as_move a.m) c.if-m-a.false
