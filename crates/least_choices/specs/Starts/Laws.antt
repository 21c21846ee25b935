-- What stands in lent cells after start cells are written there with their least choices.
-- Assumes nothing.
use Prim.Native.Nat.{ℕ, ◌+◌, ◌*◌, ◌<◌, ◌≤◌}
use Rattle.std.proofs.Math.Bool.{Bool, and_assoc, and_comm}
use Rattle.std.specs.Prelude.{◌&&◌, ◌≡◌}
use Rattle.std.proofs.Math.Path.{refl, ap, sym}
use Rattle.std.proofs.Common.{◌∙◌, zero-add, arith}
use mathlib.Core.List.{List}
use Rattle.std.proofs.Math.ListN.{length, get_or}
use Rattle.std.proofs.Math.Dec.{eqb}
use Rattle.words.specs.Lists.{places}
use Rattle.stacks.specs.Stack.{Stack1, cons1, Stack2, cons2, Annotation, of1, of2, annotation_order}
use Rattle.replies.specs.declared.Acceptance.{Acceptance}
use Rattle.automata.specs.Automaton.{Automaton, Move, Edge, no_move, no_edge, edges, move_at, edge_at, moves_of, edges_of}
use Rattle.automata.specs.Acceptance.{accepts1, accepts2, move_fits, edge_fits}
use Rattle.rounds.specs.Won.{is_won, accepts_stack}
use Rattle.rounds.specs.Won.Laws.{move_won, edge_won}
use Rattle.walks.specs.Cell.{Cell, empty1, symbol, empty2, above, stacks, stack_at, stack_of, order1, order2}
use Rattle.walks.specs.Cell.Formed.{Formed, Refers, cell_at, order_at}
use Rattle.walks.specs.Cell.Laws.{annotation_of1, annotation_of2, stack_at_lem, stack_order}
use Rattle.walks.specs.Guide.{Guided, least_choice}
use Rattle.cell_memory.specs.Memory.{cell_of, value_of, guided_cell, with_cell}
use Rattle.cell_memory.specs.Memory.Laws.{cell_of_value_of, length_with_cell, with_cell_other, with_cell_guided}
use Rattle.acceptance_words.specs.Rows.{round_in}
use Rattle.acceptance.specs.Cells.{annotation_order_at}
use Rattle.acceptance.specs.Cells.Laws.{StatesBelow}
use Rattle.least_choices.specs.Choices.{least_met}
use Rattle.least_choices.specs.Choices.Laws.{length_least_met, least_met_other, least_met_guided}
use Rattle.least_choices.specs.Starts.{move_met, edge_met, AcceptedIn, choices_by, with_start}

-- ---- tests by words are those of stacks

-- The answers say from which states the stack is accepted.
abbrev Tells : (ℕ → Acceptance) → (ℕ → Bool) → Type 0
Tells f accepts = (q : ℕ) → is_won (f q) ≡ accepts q

module _ (A : Automaton) where
  move_agrees : (a : ℕ) (u : Annotation) (s : Stack1) (f g : ℕ → Acceptance) → Tells f (accepts_stack A u) → Tells g (accepts1 A s)
      → (q : ℕ) (m : Move) → move_met a (annotation_order u) f g m && eqb m.state q ≡ (eqb m.state q && eqb m.symbol a) && move_fits A u s m
  unfolding move_met
  move_agrees a u s f g annotation rest q m =
      let own : Bool = eqb m.state q in
      let read : Bool = eqb m.symbol a in
      and_comm (move_met a (annotation_order u) f g m) own
      ∙ sym (and_assoc own read _)
      ∙ ap (λ (b : Bool). (own && read) && b) (move_won A u s f g annotation rest m)

  edge_agrees : (w : Stack1) (t : Stack2) (f g : ℕ → Acceptance) → Tells f (accepts1 A w) → Tells g (accepts2 A t)
      → (q : ℕ) (e : Edge) → edge_met f g e && eqb e.state q ≡ eqb e.state q && edge_fits A w t e
  unfolding edge_met
  edge_agrees w t f g top rest q e =
      let own : Bool = eqb e.state q in
      and_comm (edge_met f g e) own ∙ ap (λ (b : Bool). own && b) (edge_won A w t f g top rest e)

-- ---- the choices of one symbol and of one order-1 stack on an order-2 stack

module _ (A : Automaton) (small : StatesBelow A) (i : ℕ) (cells : List ℕ) (fits : i * 68 + 68 ≤ length cells)
    (none : (guided_cell cells i).choice ≡ (λ q. 0)) where
  symbol_choices : (a : ℕ) (u : Annotation) (s : Stack1) (f g : ℕ → Acceptance) → Tells f (accepts_stack A u) → Tells g (accepts1 A s)
      → guided_cell (least_met (λ m. m.state) (move_met a (annotation_order u) f g) i 0 A.moves cells) i
      ≡ record { cell = (guided_cell cells i).cell; choice = least_choice A (of1 (cons1 a u s)) }
  unfolding least_choice moves_of move_at places
  symbol_choices a u s f g annotation rest =
      least_met_guided (λ m. m.state) (move_met a (annotation_order u) f g) i no_move
      (λ q m. eqb m.state q && eqb m.symbol a) (λ j. move_fits A u s (move_at A j)) A.moves cells small.moves_below fits none
      (λ q k h.
      let m : Move = get_or A.moves k no_move in
      move_agrees A a u s f g annotation rest q m
      ∙ ap (λ (j : ℕ). (eqb m.state q && eqb m.symbol a) && move_fits A u s (move_at A j)) (sym (zero-add k)))

  above_choices : (w : Stack1) (t : Stack2) (f g : ℕ → Acceptance) → Tells f (accepts1 A w) → Tells g (accepts2 A t)
      → guided_cell (least_met (λ e. e.state) (edge_met f g) i 0 (edges A) cells) i
      ≡ record { cell = (guided_cell cells i).cell; choice = least_choice A (of2 (cons2 w t)) }
  unfolding least_choice edges_of edge_at places
  above_choices w t f g top rest =
      least_met_guided (λ e. e.state) (edge_met f g) i no_edge
      (λ q e. eqb e.state q) (λ j. edge_fits A w t (edge_at A j)) (edges A) cells small.edges_below fits none
      (λ q k h.
      let e : Edge = get_or (edges A) k no_edge in
      edge_agrees A w t f g top rest q e ∙ ap (λ (j : ℕ). eqb e.state q && edge_fits A w t (edge_at A j)) (sym (zero-add k)))

-- ---- one start cell

module _ (A : Automaton) (starts : List Cell) {rounds : List ℕ} (W : AcceptedIn A starts rounds (length starts)) where
  -- the words of a start cell of order 1, and of order 2
  tells_1 : (n : ℕ) → n < length starts → order_at starts n ≡ 1 → Tells (round_in rounds n) (accepts1 A (order1 (stack_at (stacks starts) n)))
  unfolding accepts_stack
  tells_1 n l e q =
      W.won_is n l q
      ∙ ap (λ (v : Annotation). accepts_stack A v q) (annotation_of1 (stack_at (stacks starts) n) (stack_order starts n l ∙ e))

  tells_2 : (n : ℕ) → n < length starts → order_at starts n ≡ 2 → Tells (round_in rounds n) (accepts2 A (order2 (stack_at (stacks starts) n)))
  unfolding accepts_stack
  tells_2 n l e q =
      W.won_is n l q
      ∙ ap (λ (v : Annotation). accepts_stack A v q) (annotation_of2 (stack_at (stacks starts) n) (stack_order starts n l ∙ e))

  module _ (small : StatesBelow A) (i : ℕ) (within : i < length starts) (cells : List ℕ) (fits : i * 68 + 68 ≤ length cells)
      (none : (guided_cell cells i).choice ≡ (λ q. 0)) where
    choices_right : (c : Cell) → Refers starts i c
        → guided_cell (choices_by A (annotation_order_at starts c) rounds i c cells) i
        ≡ record { cell = (guided_cell cells i).cell; choice = least_choice A (stack_of (stacks starts) c) }
    unfolding choices_by annotation_order_at stack_of least_choice
    choices_right empty1 x = λ j. record { cell = (guided_cell cells i).cell; choice = λ q. none j q }
    choices_right (symbol a u s) x =
        let u-there : u < length starts = omega (arith, x.0) in
        let s-there : s < length starts = omega (arith, x.1) in
        rw (sym (stack_order starts u u-there))
        (symbol_choices A small i cells fits none a (stack_at (stacks starts) u) (order1 (stack_at (stacks starts) s)) (round_in rounds u) (round_in rounds s)
        (W.won_is u u-there) (tells_1 s s-there x.2))
    choices_right empty2 x = λ j. record { cell = (guided_cell cells i).cell; choice = λ q. none j q }
    choices_right (above w t) x =
        let w-there : w < length starts = omega (arith, x.0) in
        let t-there : t < length starts = omega (arith, x.1) in
        above_choices A small i cells fits none (order1 (stack_at (stacks starts) w)) (order2 (stack_at (stacks starts) t)) (round_in rounds w) (round_in rounds t)
        (tells_1 w w-there x.2) (tells_2 t t-there x.3)

-- ---- one start cell more

module _ (A : Automaton) (small : StatesBelow A) where
  length_choices_by : (k : ℕ) (rounds : List ℕ) (i : ℕ) (c : Cell) (cells : List ℕ) → length (choices_by A k rounds i c cells) ≡ length cells
  unfolding choices_by
  length_choices_by k rounds i empty1 cells = refl
  length_choices_by k rounds i (symbol a u s) cells = length_least_met _ _ i no_move 0 A.moves cells small.moves_below
  length_choices_by k rounds i empty2 cells = refl
  length_choices_by k rounds i (above w t) cells = length_least_met _ _ i no_edge 0 (edges A) cells small.edges_below

  choices_by_other : (k : ℕ) (rounds : List ℕ) (i : ℕ) (c : Cell) (cells : List ℕ) (j : ℕ) → (j ≡ i → ⊥)
      → guided_cell (choices_by A k rounds i c cells) j ≡ guided_cell cells j
  unfolding choices_by
  choices_by_other k rounds i empty1 cells j e = refl
  choices_by_other k rounds i (symbol a u s) cells j e = least_met_other _ _ i no_move 0 A.moves cells small.moves_below j e
  choices_by_other k rounds i empty2 cells j e = refl
  choices_by_other k rounds i (above w t) cells j e = least_met_other _ _ i no_edge 0 (edges A) cells small.edges_below j e

  pub length_with_start : (starts : List Cell) (rounds : List ℕ) (i : ℕ) (cells : List ℕ) → length (with_start A starts rounds i cells) ≡ length cells
  unfolding with_start
  length_with_start starts rounds i cells =
      length_choices_by (annotation_order_at starts (cell_at starts i)) rounds i (cell_at starts i) (with_cell cells i (value_of (cell_at starts i)))
      ∙ length_with_cell cells i (value_of (cell_at starts i))

  pub with_start_other : (starts : List Cell) (rounds : List ℕ) (i : ℕ) (cells : List ℕ) (j : ℕ) → (j ≡ i → ⊥)
      → guided_cell (with_start A starts rounds i cells) j ≡ guided_cell cells j
  unfolding with_start
  with_start_other starts rounds i cells j e =
      choices_by_other (annotation_order_at starts (cell_at starts i)) rounds i (cell_at starts i) (with_cell cells i (value_of (cell_at starts i))) j e
      ∙ with_cell_other cells i (value_of (cell_at starts i)) j e

-- start cell i with its least choices
abbrev pub start_cell : Automaton → List Cell → ℕ → Guided
start_cell A starts i = record { cell = cell_at starts i; choice = least_choice A (stack_at (stacks starts) i) }

module _ (A : Automaton) (starts : List Cell) (F : Formed starts) (small : StatesBelow A) {rounds : List ℕ}
    (W : AcceptedIn A starts rounds (length starts)) where
  -- what stands at cell i
  pub with_start_guided : (i : ℕ) (cells : List ℕ) → i < length starts → i * 68 + 68 ≤ length cells
      → guided_cell (with_start A starts rounds i cells) i ≡ start_cell A starts i
  unfolding with_start
  with_start_guided i cells l fits =
      let c : Cell = cell_at starts i in
      let put : List ℕ = with_cell cells i (value_of c) in
      let is : guided_cell put i ≡ record { cell = cell_of (value_of c); choice = λ q. 0 } = with_cell_guided cells i (value_of c) fits in
      let len : length put ≡ length cells = length_with_cell cells i (value_of c) in
      choices_right A starts W small i l put (omega arith) (ap (λ (g : Guided). g.choice) is) c (F.refers i)
      ∙ (λ j. record {
        cell = (ap (λ (g : Guided). g.cell) is ∙ cell_of_value_of c) j;
        choice = least_choice A (sym (stack_at_lem F i l) j);
      })
