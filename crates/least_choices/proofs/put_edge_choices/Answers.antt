-- `least_choices::put_edge_choices` meets its contract.
-- Assumes nothing.
use Rattle.automata.specs.Automaton.{no_edge}
use Rattle.acceptance.specs.Named.Laws.{edge_small}
use Rattle.tables.specs.Held.Laws.{length_edges_in}
use Rattle.least_choices.specs.Choices.Laws.{looked_none, looked_more}
use borrow.Author.Rules.{rules}
use Rattle.least_choices.proofs.put_edge_choices.Goals as goal

pub loop-number-init : goal.loop-number-init
loop-number-init c =
    let a = c.args in
    let count = c.edge_count-number.ensures in
    let len = length_edges_in a.tables.now.table a.tables.now.inner.now a.tables.now.entries.now in
    looked_none _ _ _ no_edge _ _ (search rules)

pub put_choice_if-requires : goal.put_choice_if-requires
put_choice_if-requires c =
    let a = c.args in
    let count = c.edge_count-number.ensures in (
      edge_small a.tables.now.table _ _ _ c.requires.0 (search rules) c.edge_of-e.ensures.result_value,
      search rules,
      search rules,
    )

pub loop-number-preserved : goal.loop-number-preserved
loop-number-preserved c =
    let a = c.args in
    let count = c.edge_count-number.ensures in
    let len = length_edges_in a.tables.now.table a.tables.now.inner.now a.tables.now.entries.now in
    let e = c.edge_of-e.ensures.result_value in
    (looked_more _ _ _ no_edge c.loop-number.invariant (search rules) (search rules)
    (edge_small a.tables.now.table _ _ _ c.requires.0 (search rules) e) e c.edge_met-met.ensures c.put_choice_if.ensures)
