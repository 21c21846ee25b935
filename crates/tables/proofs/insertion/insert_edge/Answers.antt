-- `tables::insertion::insert_edge` meets its contract.
-- Assumes nothing.
use Rattle.automata.specs.Automaton.{choice_key}
use Rattle.tables.specs.Layouts.{edge_row}
use Rattle.tables.specs.Insertion.Laws.{layout_length, layout_inserted}
use Rattle.tables.specs.Laws.Exact.{edge_exact}
use borrow.Author.Rules.{rules}
use Rattle.tables.proofs.insertion.insert_edge.Goals as goal

pub returns : goal.returns
unfolding choice_key
returns c =
    layout_inserted edge_row edge_exact _ _ (search rules) _ _ _ _ c.insert_row.ensures.value c.insert_row.ensures.t_after (layout_length edge_row edge_exact _ c.args.t.now (search rules) _ _ c.insert_row.ensures.value).1
