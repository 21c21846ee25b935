-- `control_moves::by_moves` meets its contract.
-- Assumes nothing.
use Rattle.control_moves.proofs.First.Laws.{source_held, unsettled_held, held_below, settled_can}
use borrow.Author.Rules.{rules}
use Rattle.control_moves.proofs.by_moves.Goals as goal

pub by_control-requires : goal.by_control-requires
by_control-requires c =
    (settled_can _ c.args.to _ _ c.settled_goal-goal.ensures c.requires.0, source_held c.args.by.now.moves.held.table _ _ _ c.args.to _ _ _ c.requires.1 c.settled_states-s.ensures (search rules) c.settled_goal-goal.ensures)

pub by_newer-requires : goal.by_newer-requires
by_newer-requires c =
    (c.requires.0, unsettled_held c.args.by.now.moves.held.table _ _ _ c.args.to _ c.requires.3 c.requires.1, held_below c.args.by.now.moves.held.table _ _ _ c.args.to _ _ c.requires.1 c.requires.2 _ _ c.reads_new.ensures c.if-reads_new.false c.first_move-first.ensures)
