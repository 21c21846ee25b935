-- A step on lent cells: what is asked of its numbers, and the walk after it.
-- Assumes nothing.
pub mod Laws
use Rattle.std.specs.Prelude.{ℕ, ◌+◌, ◌-◌, ◌≤◌, ◌<◌, ◌^◌, ◌≡◌, List, [], ◌++◌, get_or}
use Rattle.stacks.specs.Stack.{Operation, new_cells}
use Rattle.automata.specs.Automaton.{Automaton, move_at, entry_edge}
use Rattle.walks.specs.Cell.{cells_after, root_after}
use Rattle.walks.specs.Guide as walks
use Rattle.tables.specs.declared.Table.{Table}
use Rattle.tables.specs.declared.view.Tables.{Tables}
use Rattle.tables.specs.Held.{automaton_of}
use Rattle.cell_memory.specs.Memory.{guided_in}
use Rattle.cell_steps.specs.declared.Top.{Top}
use Rattle.cell_steps.specs.declared.Choice.{Choice}
use Rattle.cell_steps.specs.Steps.{symbol_of, step_choices, guided_by}
use Rattle.cell_steps.specs.Steps.Choices.{top_state, root_edge}
use Rattle.guided_step.specs.declared.Walk.{Walk}
use Rattle.guided_step.specs.Walks.{walk_in}

-- the automaton as far as the choices of new cells depend on it: its moves and the number of its inner edges
abbrev pub moves_only : Table → List ℕ → Automaton
moves_only z moves = automaton_of z [] [] moves

-- the same by the tables as one value
abbrev pub moves_held : Tables → Automaton
moves_held t = moves_only t.table t.moves.now

-- ---- the choices of new cells

-- where there are none
abbrev pub no_choice : ℕ → ℕ → Choice
no_choice p' p = record { state = 0; number = p; control = p'; edge = 0 }

module _ (A : Automaton) (p' p : ℕ) where
  -- where the premise is a move
  abbrev pub move_choice : Choice
  move_choice = record { state = (move_at A p).state; number = p; control = p'; edge = entry_edge A ((move_at A p).state - A.J) }

  -- where it is an entry
  abbrev pub entry_choice : Choice
  entry_choice = record { state = 0; number = p; control = p'; edge = entry_edge A p }

  abbrev pub choice_by : Operation → Choice
  choice_by op = record { state = top_state A op p; number = p; control = p'; edge = root_edge A op p }

-- ---- a step by an operation to control p' from premise number p

-- What is asked of its numbers, at top x.
pub record StepStands (A : Automaton) (op : Operation) (p' p : ℕ) (x : Top) : Type 0 where
  pub premise_small : p < 1024
  pub state_small : top_state A op p < 64
  pub control_small : p' < 64
  pub symbol_small : symbol_of op < 2 ^ 16
  pub annotation_small : x.annotation < 2 ^ 16
  pub below_small : x.below < 2 ^ 16

-- the walk w after the step at top x, where es and ms are the words of the edges and moves chosen
unfoldable pub stepped : Automaton → Operation → ℕ → ℕ → Top → List ℕ → List ℕ → Walk → List ℕ → walks.Walk
stepped A op p' p x es ms w cells =
    record {
      control = p';
      root = root_after op w.cells x.annotation x.below;
      cells = guided_in w.cells cells
          ++ guided_by (cells_after op w.cells x.symbol x.annotation x.rest x.below)
          (step_choices (top_state A op p) p p' (root_edge A op p) es ms op);
    }

-- The walk v on the cells cells' is w after the step.
pub record Steps (A : Automaton) (op : Operation) (p' p : ℕ) (x : Top) (es ms : List ℕ) (w : Walk) (cells : List ℕ) (v : Walk) (cells' : List ℕ) : Type 0 where
  pub walk_is : walk_in v cells' ≡ stepped A op p' p x es ms w cells
  pub cells_more : v.cells ≡ w.cells + new_cells op
  pub steps_more : v.steps ≡ w.steps + 1

-- Bytes.
pub record BytesFit (bytes : List ℕ) : Type 0 where
  pub fits : (i : ℕ) → get_or bytes i 0 < 256
