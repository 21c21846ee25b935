-- The rounds turn by turn: what is left to do after k rounds, and what a turn leaves.
-- Assumes nothing.
pub mod Laws
use Rattle.std.specs.Prelude.{ℕ, ◌+◌, ◌-◌, ◌≤◌, ◌<◌, Bool, true, false, ◌≡◌, List, length, eqb, Option as Answer, Some, None}
use Rattle.std.specs.declared.ops.ControlFlow.{ControlFlow}
use Rattle.std.specs.declared.ops.ControlFlow.TheVariants.{Continue, Break}
use Rattle.std.proofs.Math.Option.{Option}
use Rattle.stacks.specs.System.{Rule}
use Rattle.automata.specs.Saturation.{Saturated, saturate_from}
use Rattle.services.specs.Memory.{lent}
use Rattle.tables.specs.declared.Table.{Table}
use Rattle.tables.specs.Rows.{rows_in}
use Rattle.tables.specs.Layouts.{entry_row, move_row}
use Rattle.tables.specs.Held.{automaton_of}
use Rattle.tables.specs.Laws.Filled.{Filled}
use Rattle.one_round.specs.Rounding.{Standing}
use Rattle.saturation.specs.declared.Saturated.{Saturated as SaturatedWords}
use Rattle.saturation.specs.Layout.{size_row}
use Rattle.saturation.specs.Prepared.{round_before, Prepared}
use Rattle.saturation.specs.Running.{most_moves, most_entries, EndsAs}

-- ---- what a turn answers

-- the end of the rounds: k of them added a move, and a round more would add one or not
abbrev pub the_stopped : Table → ℕ → Bool → SaturatedWords
the_stopped z k more = record { table = z; rounds = k; more = more }

-- a turn breaks off the rounds with their answer, or they go on with the table of one more
abbrev pub Turn : Type 0
Turn = ControlFlow (Answer SaturatedWords) Table

-- what follows a round on table z, that after k rounds: a limit is passed, it added no move, or the rounds go on
unfoldable pub after_round : Table → ℕ → Answer Table → Turn
after_round z k None = Break None
after_round z k (Some next) = elim (eqb next.moves z.moves) [ true ↦ Break (Some (the_stopped next k false)) | false ↦ Continue next ]

-- ---- what is left to do

-- The tables after k of at most so many rounds, each of which added a move.
pub record Underway (inner : List ℕ) (rounds : ℕ) (z : Table) (k : ℕ) (entries moves : List ℕ) : Type 0 where
  pub standing : Standing z (most_moves (length moves)) (most_entries (length entries) z.inner1) inner entries moves
  pub asked : k ≤ rounds
  pub count : k ≤ z.moves

module _ (rules : List Rule) (inner : List ℕ) (rounds : ℕ) where
  -- what is left to do on the tables after k rounds, whose sizes so far stand in the first k rows
  unfoldable pub left_from : Table → ℕ → List ℕ → List ℕ → List ℕ → Option Saturated
  left_from z k entries moves sizes =
      saturate_from rules (lent (length moves) (length entries)) (rounds - k) (rows_in size_row k sizes) (automaton_of z inner entries moves)

  -- From the tables after k rounds to those after some more: what is left to do there is what is left to do here.
  pub record Follows (z : Table) (k : ℕ) (entries moves sizes : List ℕ) (z' : Table) (k' : ℕ) (entries' moves' sizes' : List ℕ) : Type 0 where
    pub left : left_from z k entries moves sizes ≡ left_from z' k' entries' moves' sizes'
    pub same_states : z'.inner1 ≡ z.inner1
    pub entries_filled : Filled entry_row z.entries entries → Filled entry_row z'.entries entries'
    pub moves_filled : Filled move_row z.moves moves → Filled move_row z'.moves moves'
    pub entries_long : length entries' ≡ length entries
    pub moves_long : length moves' ≡ length moves

  -- One round more: it has added a move, and the next turn finds all prepared.
  pub record GoesOn (z : Table) (k : ℕ) (entries moves sizes : List ℕ) (z' : Table) (entries' moves' sizes' states' words' memo' : List ℕ) : Type 0 where
    pub follows : Follows z k entries moves sizes z' (k + 1) entries' moves' sizes'
    pub underway : Underway inner rounds z' (k + 1) entries' moves'
    pub prepared : Prepared rules inner z' entries' moves' (round_before z) states' words' memo'
    pub rises : z.moves < z'.moves

  -- What a turn leaves on the tables after k rounds: the end of what was left to do, or one round more.
  abbrev pub TurnLeaves : Table → ℕ → List ℕ → List ℕ → List ℕ → Turn → List ℕ → List ℕ → List ℕ → List ℕ → List ℕ → List ℕ → Type 0
  TurnLeaves z k entries moves sizes (Break r) entries' moves' sizes' states' words' memo' =
      EndsAs rules inner (left_from z k entries moves sizes) z entries moves r entries' moves' sizes'
  TurnLeaves z k entries moves sizes (Continue z') entries' moves' sizes' states' words' memo' =
      GoesOn z k entries moves sizes z' entries' moves' sizes' states' words' memo'
