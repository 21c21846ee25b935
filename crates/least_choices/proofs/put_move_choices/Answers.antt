-- `least_choices::put_move_choices` meets its contract.
-- Assumes nothing.
use Rattle.automata.specs.Automaton.{no_move}
use Rattle.tables.specs.Rows.Laws.{length_rows_in}
use Rattle.tables.specs.Layouts.{move_row}
use Rattle.acceptance.specs.Named.Laws.{move_small, move_row_lem}
use Rattle.least_choices.specs.Choices.Laws.{looked_none, looked_more}
use borrow.Author.Rules.{rules}
use Rattle.least_choices.proofs.put_move_choices.Goals as goal

pub loop-number-init : goal.loop-number-init
loop-number-init c =
    let a = c.args in
    let len = length_rows_in move_row a.tables.now.table.moves a.tables.now.moves.now in
    looked_none _ _ _ no_move _ _ (search rules)

pub loop-number-preserved : goal.loop-number-preserved
loop-number-preserved c =
    let a = c.args in
    let len = length_rows_in move_row a.tables.now.table.moves a.tables.now.moves.now in
    let m = c.move_at-m.ensures in
    (looked_more _ _ _ no_move c.loop-number.invariant (search rules) (search rules)
    (move_small c.requires.0 (search rules) m)
    (move_row_lem a.tables.now.table _ (search rules) m) c.move_met-met.ensures c.put_choice_if.ensures)
