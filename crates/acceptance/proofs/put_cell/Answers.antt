-- `acceptance::put_cell` meets its contract.
-- Assumes nothing.
use Rattle.automata.specs.Automaton.{edges}
use Rattle.saturation.specs.Held.{saturated_on}
use Rattle.acceptance.specs.Cells.Turns.{parts_symbol, parts_above, by_empty1, by_symbol, by_empty2, by_above}
use Rattle.acceptance.proofs.put_cell.Goals as goal

pub put_symbol-requires : goal.put_symbol-requires
put_symbol-requires c =
    let p = c.requires in
    let below = parts_symbol _ _ _ c.in-Symbol.is p.3 in
    (p.0.moves_named, p.1, p.2, below.0, below.1, p.4, p.5)

pub put_above-requires : goal.put_above-requires
put_above-requires c =
    let p = c.requires in
    let below = parts_above _ _ c.in-Above.is p.3 in
    (p.0.edges_named, below.0, below.1, p.4, p.5)

pub returns-in-Empty1 : goal.returns-in-Empty1
returns-in-Empty1 c = by_empty1 (saturated_on c.args.tables.now _ _) _ c.in-Empty1.is c.put_final.ensures

pub returns-in-Symbol : goal.returns-in-Symbol
returns-in-Symbol c = by_symbol (saturated_on c.args.tables.now _ _) _ _ _ _ c.in-Symbol.is c.put_symbol.ensures

pub returns-in-Empty2 : goal.returns-in-Empty2
returns-in-Empty2 c = by_empty2 (saturated_on c.args.tables.now _ _) _ c.in-Empty2.is c.put_final-in-Empty2.ensures

pub returns-in-Above : goal.returns-in-Above
unfolding edges
returns-in-Above c = by_above (saturated_on c.args.tables.now _ _) _ _ _ c.in-Above.is c.put_above.ensures
