-- One round on tables.
-- Assumes nothing.
pub mod Laws
use Rattle.std.specs.Prelude.{ℕ, ◌*◌, ◌≤◌, ◌<◌, ◌≡◌, ◌⊎◌, List, length, Option, Some, None}
use Rattle.stacks.specs.System.{Rule}
use Rattle.automata.specs.Saturation.{round}
use Rattle.tables.specs.declared.Table.{Table}
use Rattle.tables.specs.Held.{automaton_of, EdgesStand}
use Rattle.tables.specs.Counts.{CountsStand}
use Rattle.results.specs.Collecting.{new_results}
use Rattle.added_results.specs.Adding.{Growing, Grows}

-- The tables stand in their slices, with room for so many moves and entries, and with each entry the number of its moves.
pub record Standing (z : Table) (most_moves most_entries : ℕ) (inner entries moves : List ℕ) : Type 0 where
  pub edges : EdgesStand z inner
  pub growing : Growing z most_entries entries
  pub moves_few : z.moves ≤ most_moves
  pub moves_lent : most_moves * 5 ≤ length moves
  pub counts : CountsStand z entries moves

module _ (rules : List Rule) (inner : List ℕ) where
  -- The tables after a round.
  pub record Fits (z : Table) (most_moves most_entries : ℕ) (entries moves : List ℕ) (z' : Table) (entries' moves' : List ℕ) : Type 0 where
    pub grows : Grows z entries moves (new_results rules (automaton_of z inner entries moves)) z' entries' moves'
    pub standing : Standing z' most_moves most_entries inner entries' moves'

  -- A limit is passed.
  pub record Exceeds (z : Table) (most_moves most_entries : ℕ) (entries moves entries' moves' : List ℕ) : Type 0 where
    pub over : (most_moves < length (round rules (automaton_of z inner entries moves)).moves) ⊎ (most_entries < length (round rules (automaton_of z inner entries moves)).entries)
    pub entries_long : length entries' ≡ length entries
    pub moves_long : length moves' ≡ length moves

  -- The tables after a round, or a limit is passed.
  abbrev pub Rounded : Table → ℕ → ℕ → List ℕ → List ℕ → Option Table → List ℕ → List ℕ → Type 0
  Rounded z most_moves most_entries entries moves (Some z') entries' moves' = Fits z most_moves most_entries entries moves z' entries' moves'
  Rounded z most_moves most_entries entries moves None entries' moves' = Exceeds z most_moves most_entries entries moves entries' moves'
