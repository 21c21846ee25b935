-- `least_choices::put_least_choices` meets its contract.
-- Assumes nothing.
use native.Mathlib.Omega.{arith}
use Rattle.std.proofs.Math.Logic.{⊎_elim}
use Rattle.automata.specs.Automaton.{edges}
use Rattle.tables.specs.View.{automaton_in}
use Rattle.acceptance.specs.Cells.Turns.{parts_symbol, parts_above}
use Rattle.least_choices.specs.Starts.Turns.{by_empty1, by_symbol, by_empty2, by_above}
use Rattle.least_choices.proofs.put_least_choices.Goals as goal

pub put_move_choices-requires : goal.put_move_choices-requires
put_move_choices-requires c =
    let p = c.requires in
    let below = parts_symbol _ _ _ c.in-Symbol.is p.2 in
    let u = below.0 in
    let s = below.1 in
    let room = p.3 in
    (p.0.moves_named, p.1, omega arith, omega arith, p.4)

pub put_edge_choices-requires : goal.put_edge_choices-requires
put_edge_choices-requires c =
    let p = c.requires in
    let below = parts_above _ _ c.in-Above.is p.2 in
    let w = below.0 in
    let t = below.1 in
    let room = p.3 in
    (p.0.edges_named, p.1, omega arith, omega arith, p.4)

pub returns-in-Symbol : goal.returns-in-Symbol
returns-in-Symbol c = by_symbol (automaton_in c.args.tables.now) _ _ _ _ _ _ _ _ c.in-Symbol.is c.put_move_choices.ensures

pub returns-in-Above : goal.returns-in-Above
unfolding edges
returns-in-Above c = by_above (automaton_in c.args.tables.now) _ _ _ _ _ _ _ c.in-Above.is c.put_edge_choices.ensures

pub returns-in-Empty1 : goal.returns-in-Empty1
returns-in-Empty1 c =
    let A = automaton_in c.args.tables.now in
    ⊎_elim (λ e. by_empty1 A _ _ _ _ _ e) (λ e. by_empty2 A _ _ _ _ _ e) c.in-Empty1.is
