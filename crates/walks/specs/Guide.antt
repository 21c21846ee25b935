-- The guided run on cells: the choices of the start's cells, one step, the full run, and the halt for c cells and t trace words.
-- Assumes nothing.
use Rattle.std.specs.Prelude.{ℕ, zero, suc, ◌-◌, true, false, length, get_or, eqb, ltb, leb}
use Rattle.std.proofs.Math.Option.{Option, none, some}
use mathlib.Core.List.{List, [], ◌∷◌, ◌++◌, map, zip_with}
use Rattle.std.proofs.Math.ListN.{get_elem?}
use Rattle.words.specs.Sets.{members}
use Rattle.words.specs.Lists.{only}
use Rattle.stacks.specs.Stack.{nil1, cons1, nil2, cons2, Annotation, of1, of2}
use Rattle.stacks.specs.Stack.{Operation, rewrite, push1, push2, copy, pop1, pop2, collapse1, collapse2}
use Rattle.stacks.specs.System.{Configuration, Rule}
use Rattle.automata.specs.Automaton.{Automaton, move_at, edge_at, edges_of, moves_of, entry_set, entry_edge}
use Rattle.automata.specs.Acceptance.{move_fits, edge_fits}
use Rattle.automata.specs.Derivation.{Derivation, named, result_of, first_derivation}
use Rattle.automata.specs.Saturation.{Saturated, before, own_moves}
use Rattle.replies.specs.declared.Counts.{Counts}
use Rattle.replies.specs.declared.Halt.{Halt}
use Rattle.replies.specs.declared.Halt.TheVariants.{Arrived, TraceFull, CellsShort}
use Rattle.replies.specs.declared.Reply.{Reply}
use Rattle.replies.specs.declared.Reply.TheVariants.{NoRun, Walked}
use Rattle.walks.specs.Cell.{Cell, empty1, symbol, empty2, above, order2, stack_at, stacks, cells_after, root_after}

-- a cell with its choices: for a symbol the number of a move by order-1 state, for an order-2 stack the number of an edge by order-2
-- state
pub record Guided : Type 0 where
  pub cell : Cell
  pub choice : ℕ → ℕ

abbrev pub no_guided : Guided
no_guided = record { cell = empty1; choice = λ q. 0 }

-- a control, a root cell and all cells so far
pub record Walk : Type 0 where
  pub control : ℕ
  pub root : ℕ
  pub cells : List Guided

-- the configuration that a walk stands for: "its control with the stack that its root cell stands for"
unfoldable pub walk_configuration : Walk → Configuration
walk_configuration w = record { control = w.control; stack = order2 (stack_at (stacks (map (λ g. g.cell) w.cells)) w.root) }

-- the first number of a list
unfoldable pub first_or_zero : List ℕ → ℕ
first_or_zero [] = 0
first_or_zero (n ∷ ns) = n

-- "Each cell and each state accepting it gets the choice of least number: the edge with least order-1 state, then least S; the least
-- move." (0 where no state asks.)
unfoldable pub least_choice : Automaton → Annotation → ℕ → ℕ
least_choice A (of1 nil1) r = 0
least_choice A (of1 (cons1 a u s)) r = first_or_zero (only (λ i. move_fits A u s (move_at A i)) (moves_of A r a))
least_choice A (of2 nil2) q = 0
least_choice A (of2 (cons2 w t)) q = first_or_zero (only (λ e. edge_fits A w t (edge_at A e)) (edges_of A q))

-- "All start cells are taken first."
unfoldable pub start_walk : Automaton → List Cell → ℕ → ℕ → Walk
start_walk A cells p root =
    record {
      control = p;
      root = root;
      cells = zip_with (λ c u. record { cell = c; choice = least_choice A u }) cells (stacks cells);
    }

-- the choice of number n for state q alone
unfoldable pub chooses : ℕ → ℕ → ℕ → ℕ
chooses q n x = elim (eqb q x) [ true ↦ n | false ↦ 0 ]

-- the choices of these numbers for these states
unfoldable pub chooses_all : List ℕ → List ℕ → ℕ → ℕ
chooses_all [] ns x = 0
chooses_all (q ∷ qs) [] x = 0
chooses_all (q ∷ qs) (n ∷ ns) x = elim (eqb q x) [ true ↦ n | false ↦ chooses_all qs ns x ]

-- "New cells carry the choices of that derivation": for each new cell of the operation, in the order of `cells_after`.
module _ (A : Automaton) (d : Derivation) (p' : ℕ) where
  -- the first number of the premise: a move's or an entry's
  unfoldable pub premise : ℕ
  premise = first_or_zero d.premise

  -- the new top symbol chooses the premise for its entry
  unfoldable pub top_choice : ℕ → ℕ
  top_choice = chooses (move_at A premise).state premise

  -- the new root chooses the entry of the premise for p'
  unfoldable pub root_choice : ℕ → ℕ
  root_choice = chooses p' (entry_edge A ((move_at A premise).state - A.J))

  unfoldable pub choices_after : Operation → List (ℕ → ℕ)
  choices_after (rewrite b) = top_choice ∷ root_choice ∷ []
  choices_after (push1 b) = chooses_all (members (move_at A premise).R) d.moves ∷ top_choice ∷ root_choice ∷ []
  choices_after (push2 b) = chooses_all (members (move_at A premise).R) d.moves ∷ top_choice ∷ root_choice ∷ []
  choices_after copy =
      chooses_all (members (named A d.edges)) d.moves
      ∷ chooses_all (members (entry_set A (move_at A premise).state)) d.edges
      ∷ top_choice
      ∷ root_choice
      ∷ []
  choices_after pop1 = chooses p' (entry_edge A premise) ∷ []
  choices_after pop2 = []
  choices_after collapse1 = chooses p' (entry_edge A premise) ∷ []
  choices_after collapse2 = []

-- the top of a walk: its symbol a, the cells u, s and t, and the number of the chosen move
pub record Top : Type 0 where
  pub a : ℕ
  pub u : ℕ
  pub s : ℕ
  pub t : ℕ
  pub move : ℕ

unfoldable pub guided_at : Walk → ℕ → Guided
guided_at w n = get_or w.cells n no_guided

-- the top where order-1 cell c, to be accepted by order-1 state r, stands on order-2 cell t
unfoldable pub top_on : Walk → ℕ → ℕ → ℕ → Cell → Option Top
top_on w c r t empty1 = none
top_on w c r t (symbol a u s) = some (record { a = a; u = u; s = s; t = t; move = (guided_at w c).choice r })
top_on w c r t empty2 = none
top_on w c r t (above x y) = none

unfoldable pub top_of : Automaton → Walk → Cell → Option Top
top_of A w empty1 = none
top_of A w (symbol a u s) = none
top_of A w empty2 = none
top_of A w (above c t) = top_on w c (edge_at A ((guided_at w w.root).choice w.control)).first t (guided_at w c).cell

-- One step answers: arrived, a trace word with the next walk, or stuck, which no walk of a start marked yes ever is.
pub data Next : Type 0 where
  arrived : Next
  to : ℕ → Walk → Next
  stuck : Next

module _ (rules : List Rule) (T : Saturated) where
  -- the walk after a step by derivation d and its rule, at this top
  unfoldable pub moved : Walk → Top → Derivation → Rule → Walk
  moved w x d ρ =
      let n : ℕ = length w.cells in
      record {
        control = ρ.next;
        root = root_after ρ.operation n x.u x.t;
        cells = w.cells
            ++ zip_with (λ c f. record { cell = c; choice = f }) (cells_after ρ.operation n x.a x.u x.s x.t)
            (choices_after T.table d ρ.next ρ.operation);
      }

  unfoldable pub by_derivation : Walk → Top → Option Derivation → Next
  by_derivation w x none = stuck
  by_derivation w x (some d) = elim (get_elem? rules d.rule) [ none ↦ stuck | some ρ ↦ to d.rule (moved w x d ρ) ]

  -- "The chosen move at the top has arrived if it is from round 0. Otherwise the step is its first derivation from earlier rounds." "The
  -- walk has also arrived where no move is needed": there is no top, as the root is the empty order-2 stack or the top order-1 stack is
  -- empty.
  unfoldable pub at_top : Walk → Option Top → Next
  at_top w none = arrived
  at_top w (some x) = elim (ltb x.move (own_moves T.sizes)) [
    | true ↦ arrived
    | false ↦ by_derivation w x (first_derivation (before T x.move) rules (result_of T.table (move_at T.table x.move)))
  ]

  unfoldable pub next : Walk → Next
  next w = at_top w (top_of T.table w (guided_at w w.root).cell)

  -- The full run: the walk after m steps, where it has that many.
  unfoldable pub walk_after : ℕ → Walk → Option Walk
  walk_after zero w = some w
  walk_after (suc m) w = elim (next w) [ arrived ↦ none | to n v ↦ walk_after m v | stuck ↦ none ]

  -- the rule numbers of its first m steps, or of all where it has fewer
  unfoldable pub trace_after : ℕ → Walk → List ℕ
  trace_after zero w = []
  trace_after (suc m) w = elim (next w) [ arrived ↦ [] | to n v ↦ n ∷ trace_after m v | stuck ↦ [] ]

-- what a walk answers, and the rule numbers that it has written
pub record Report : Type 0 where
  pub reply : Reply
  pub trace : List ℕ

unfoldable pub counts : List ℕ → Walk → Counts
counts trace w = record { steps = length trace; cells = length w.cells }

unfoldable pub walked_by : Halt → List ℕ → Report
walked_by h trace = record { reply = Walked h; trace = trace }

unfoldable pub no_run : Report
no_run = record { reply = NoRun; trace = [] }

module _ (rules : List Rule) (T : Saturated) (c : ℕ) where
  -- "A walk is tested for arrival first, then trace, then cells": with t trace words left, these written already.
  unfoldable pub guided : ℕ → List ℕ → Walk → Report
  guided zero trace w = elim (next rules T w) [
    | arrived ↦ walked_by (Arrived (counts trace w)) trace
    | to n v ↦ walked_by (TraceFull (counts trace w)) trace
    | stuck ↦ no_run
  ]
  guided (suc t) trace w = elim (next rules T w) [
    | arrived ↦ walked_by (Arrived (counts trace w)) trace
    | to n v ↦ elim (leb (length v.cells) c) [
      | true ↦ guided t (trace ++ (n ∷ [])) v
      | false ↦ walked_by (CellsShort (counts trace w)) trace
    ]
    | stuck ↦ no_run
  ]
