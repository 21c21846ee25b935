-- `least_choices::put_start_cell` meets its contract.
-- Assumes nothing.
use Rattle.tables.specs.View.{automaton_in}
use Rattle.least_choices.specs.Starts.Turns.{start_put, start_parts}
use borrow.Author.Rules.{rules}
use Rattle.least_choices.proofs.put_start_cell.Goals as goal

pub put_least_choices-requires : goal.put_least_choices-requires
put_least_choices-requires c =
    let a = c.args in
    let p = c.requires in
    let parts = start_parts a.n _ p.0.formed p.1 c.cell_at-cell.ensures in
    (p.0.stands, p.0.few, parts, search rules, search rules)

pub returns : goal.returns
returns c =
    let a = c.args in
    start_put (automaton_in a.tables.now) a.n _ _ c.cell_at-cell.result _ (search rules) c.cell_at-cell.ensures
    c.annotation_order-k.ensures c.put_cell.ensures c.put_least_choices.ensures
