-- `least_choices::put_start_cells` meets its contract.
-- Assumes nothing.
use borrow.Author.Rules.{rules}
use Rattle.start_records.specs.Body.Laws.{length_cells_in}
use Rattle.acceptance.specs.Cells.Laws.{states_below}
use Rattle.least_choices.specs.Starts.Turns.{taken_more, taken_all}
use Rattle.least_choices.proofs.put_start_cells.Goals as goal

pub loop-i-preserved : goal.loop-i-preserved
loop-i-preserved c =
    let a = c.args in
    let p = c.requires.0 in
    (taken_more c.loop-i.invariant p.formed (states_below p.stands) p.accepted_in_holds (length_cells_in a.n a.body.now) (search rules) (search rules)
    c.put_start_cell.ensures)

pub returns : goal.returns
returns c = taken_all c.loop-i.invariant (length_cells_in _ _) c.loop-i-test.false
