-- At most so many rounds, until one adds no move or passes a limit.
-- Assumes nothing.
pub mod Laws
use Rattle.std.specs.Prelude.{ℕ, ◌-◌, ◌/◌, ◌≤◌, min, ◌+◌, Bool, ◌≡◌, List, length, Option as Answer, Some, None}
use Rattle.std.proofs.Math.Option.{Option, none, some}
use Rattle.stacks.specs.System.{Rule}
use Rattle.automata.specs.Automaton.{Automaton}
use Rattle.automata.specs.Saturation.{Saturated, adds_move, saturate, rounds_added}
use Rattle.services.specs.Memory.{lent, entry_width}
use Rattle.tables.specs.declared.Table.{Table}
use Rattle.tables.specs.Layouts.{entry_row, move_row}
use Rattle.tables.specs.Held.{automaton_of, EdgesStand, EntriesStand, MovesStand}
use Rattle.tables.specs.Counts.{CountsStand}
use Rattle.tables.specs.Laws.Filled.{Filled}
use Rattle.results.specs.Collecting.{RulesStand}
use Rattle.added_results.specs.Adding.{StatesExist}
use Rattle.one_round.specs.Rounding.{Standing}
use Rattle.saturation.specs.declared.Saturated.{Saturated as SaturatedWords}
use Rattle.saturation.specs.Held.{saturated_in}

-- ---- limits

unfoldable pub most_moves : ℕ → ℕ
most_moves words = min (words / 5) 1024

unfoldable pub most_entries : ℕ → ℕ → ℕ
most_entries words states = min (words / entry_width) (64 - states)

-- ---- the loop

-- The tables of round 0, with at most 1,024 moves, each of a state that exists, and with each entry the number of its moves.
pub record Given (z : Table) (inner entries moves : List ℕ) : Type 0 where
  pub edges : EdgesStand z inner
  pub entries_stand : EntriesStand z entries
  pub moves_stand : MovesStand z moves
  pub moves_few : z.moves ≤ 1024
  pub states_exist : StatesExist (automaton_of z inner entries moves)
  pub counts : CountsStand z entries moves

-- The rules stand in their body, and the working memory holds the results of a round and the sizes after 1,024 rounds.
pub record WorkLent (count : ℕ) (body pending sizes : List ℕ) : Type 0 where
  pub rules_stand : RulesStand count body
  pub pending_lent : 6144 ≤ length pending
  pub sizes_lent : 2050 ≤ length sizes

module _ (rules : List Rule) (inner : List ℕ) where
  -- The tables at the end of rounds on z that give `whole`: its table with its sizes, zeros behind the last rows staying there. The number k of rounds is
  -- that of the definition's table, and `more` says whether a round more would add a move.
  pub record EndsWith (whole : Option Saturated) (z : Table) (entries moves : List ℕ) (z' : Table) (k : ℕ) (more : Bool) (entries' moves' sizes : List ℕ) : Type 0 where
    pub saturated : whole ≡ some (saturated_in z' inner entries' moves' (k + 1) sizes)
    pub count : k ≡ rounds_added (saturated_in z' inner entries' moves' (k + 1) sizes)
    pub more_is : more ≡ adds_move rules (automaton_of z' inner entries' moves')
    pub standing : Standing z' (most_moves (length moves)) (most_entries (length entries) z.inner1) inner entries' moves'
    pub entries_filled : Filled entry_row z.entries entries → Filled entry_row z'.entries entries'
    pub moves_filled : Filled move_row z.moves moves → Filled move_row z'.moves moves'
    pub few : k ≤ 1024

  -- The tables at the end of these rounds, or none where a limit is passed.
  abbrev pub EndsAs : Option Saturated → Table → List ℕ → List ℕ → Answer SaturatedWords → List ℕ → List ℕ → List ℕ → Type 0
  EndsAs whole z entries moves (Some r) entries' moves' sizes = EndsWith whole z entries moves r.table r.rounds r.more entries' moves' sizes
  EndsAs whole z entries moves None entries' moves' sizes = whole ≡ none

-- the end of at most so many rounds
abbrev pub Ends : List Rule → ℕ → List ℕ → Table → List ℕ → List ℕ → Answer SaturatedWords → List ℕ → List ℕ → List ℕ → Type 0
Ends rules rounds inner z entries moves =
    EndsAs rules inner (saturate rules (lent (length moves) (length entries)) rounds (automaton_of z inner entries moves)) z entries moves
