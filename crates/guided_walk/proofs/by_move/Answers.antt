-- `guided_walk::by_move` meets its contract.
-- Assumes nothing.
use mathlib.Core.Path.{◌≡◌}
use Rattle.automata.specs.Automaton.{move_at}
use Rattle.guided_walk.specs.Stepped.{moves_only}
use Rattle.guided_walk.specs.Stepped.Laws.{move_state, move_choice_lem}
use borrow.Author.Rules.{rules}
use Rattle.guided_walk.proofs.by_move.Goals as goal

pub entry_edge-requires : goal.entry_edge-requires
entry_edge-requires c =
    let state : c.move_of-m.result.state ≡ (move_at (moves_only c.args.tables.now.table c.args.tables.now.moves.now) c.args.premise).state =
    move_state c.args.tables.now.table c.args.tables.now.moves.now c.args.premise c.move_of-m.ensures in
    search rules

pub returns : goal.returns
returns c =
    move_choice_lem _ _ (move_state c.args.tables.now.table c.args.tables.now.moves.now c.args.premise c.move_of-m.ensures) c.saturating_sub.ensures c.entry_edge.ensures
