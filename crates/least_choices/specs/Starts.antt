-- The cells of a start file in lent cells, each with its least choices, by the words of the cells, which say from which states each is accepted.
-- Assumes nothing.
pub mod Laws
pub mod Turns
use Rattle.std.specs.Prelude.{ℕ, ◌*◌, ◌≤◌, ◌<◌, Bool, ◌&&◌, ◌≡◌, length, eqb}
use mathlib.Core.List.{List, zip_with}
use Rattle.replies.specs.declared.Acceptance.{Acceptance}
use Rattle.automata.specs.Automaton.{Automaton, Move, Edge, edges}
use Rattle.rounds.specs.Won.{is_won, move_round, edge_round, accepts_stack}
use Rattle.walks.specs.Cell as walks
use Rattle.walks.specs.Cell.{empty1, symbol, empty2, above, stacks, stack_at}
use Rattle.walks.specs.Cell.Formed.{Formed, cell_at}
use Rattle.walks.specs.Guide.{Guided, least_choice}
use Rattle.tables.specs.declared.Table.{Table}
use Rattle.tables.specs.declared.view.Tables.{Tables}
use Rattle.tables.specs.View.{automaton_in}
use Rattle.cell_memory.specs.Memory.{value_of, with_cell}
use Rattle.acceptance_words.specs.Rows.{round_in}
use Rattle.acceptance.specs.Named.{NamedIn}
use Rattle.acceptance.specs.Cells.{annotation_order_at}
use Rattle.start_records.specs.Body.{cells_in}
use Rattle.least_choices.specs.Choices.{least_met}

-- The numbers of moves and of edges fit 16 bits, the entries being at most 64.
pub record Few (z : Table) : Type 0 where
  pub moves_few : z.moves ≤ 1024
  pub edges_few : z.edges ≤ 64

-- the move reads symbol a, and the annotation, of order k, and the rest are as it asks, by the answers for each
unfoldable pub move_met : ℕ → ℕ → (ℕ → Acceptance) → (ℕ → Acceptance) → Move → Bool
move_met a k annotation rest m = eqb m.symbol a && is_won (move_round k annotation rest m)

-- the top and the rest are as the edge asks, by the answers for each
unfoldable pub edge_met : (ℕ → Acceptance) → (ℕ → Acceptance) → Edge → Bool
edge_met top rest e = is_won (edge_round top rest e)

-- The words of the first n cells say from which states each is accepted.
pub record AcceptedIn (A : Automaton) (cells : List walks.Cell) (rounds : List ℕ) (n : ℕ) : Type 0 where
  pub won_is : (i : ℕ) → i < n → (q : ℕ) → is_won (round_in rounds i q) ≡ accepts_stack A (stack_at (stacks cells) i) q

-- What is asked before the start cells are written: the three tables stand, the body has n cells that refer to lower ones of the right
-- order, and the words of the cells say from which states each is accepted.
pub record Prepared (t : Tables) (body : List ℕ) (n : ℕ) (rounds : List ℕ) : Type 0 where
  pub stands : NamedIn t
  pub few : Few t.table
  pub body_lent : n * 6 ≤ length body
  pub formed : Formed (cells_in n body)
  pub rounds_lent : n * 64 ≤ length rounds
  pub accepted_in_holds : AcceptedIn (automaton_in t) (cells_in n body) rounds n

-- the lent cells where cell i, which is c, has its least choices, by the words of the cells to which it refers; a symbol's annotation is of
-- order k
unfoldable pub choices_by : Automaton → ℕ → List ℕ → ℕ → walks.Cell → List ℕ → List ℕ
choices_by A k rounds i empty1 cells = cells
choices_by A k rounds i (symbol a u s) cells = least_met (λ m. m.state) (move_met a k (round_in rounds u) (round_in rounds s)) i 0 A.moves cells
choices_by A k rounds i empty2 cells = cells
choices_by A k rounds i (above w t) cells = least_met (λ e. e.state) (edge_met (round_in rounds w) (round_in rounds t)) i 0 (edges A) cells

-- the lent cells where cell i is start cell i with its least choices
unfoldable pub with_start : Automaton → List walks.Cell → List ℕ → ℕ → List ℕ → List ℕ
with_start A starts rounds i cells =
    choices_by A (annotation_order_at starts (cell_at starts i)) rounds i (cell_at starts i) (with_cell cells i (value_of (cell_at starts i)))

-- the start cells with their least choices
abbrev pub start_cells : Automaton → List walks.Cell → List Guided
start_cells A starts = zip_with (λ c u. record { cell = c; choice = least_choice A u }) starts (stacks starts)
