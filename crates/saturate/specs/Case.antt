-- The table of a sound case after at most so many rounds.
-- Assumes nothing.
pub mod Laws
use Rattle.std.specs.Prelude.{ℕ, ◌≤◌, ◌+◌, Bool, ◌≡◌, List, length, Option as Answer, Some, None}
use Rattle.std.proofs.Math.Option.{none, some}
use Rattle.automata.specs.Saturation.{adds_move, saturate, rounds_added}
use Rattle.files.specs.Case.{own_of, rules_of}
use Rattle.services.specs.Memory.{lent}
use Rattle.words.specs.Lists.{zeros}
use Rattle.tables.specs.declared.Table.{Table}
use Rattle.tables.specs.Layouts.{entry_row, move_row}
use Rattle.tables.specs.Held.{automaton_of}
use Rattle.tables.specs.Laws.Filled.{Filled}
use Rattle.saturation.specs.Running.{most_moves, most_entries}
use Rattle.saturation.specs.declared.Saturated.{Saturated as SaturatedWords}
use Rattle.saturation.specs.Held.{saturated_in}
use Rattle.one_round.specs.Rounding.{Standing}

-- What is asked of the memory: the tables are all zero, and there is room for 64 inner edges and 1,025 sizes.
pub record Working (inner entries moves sizes : List ℕ) : Type 0 where
  pub entries_zero : entries ≡ zeros (length entries)
  pub moves_zero : moves ≡ zeros (length moves)
  pub inner_room : 192 ≤ length inner
  pub sizes_room : 2050 ≤ length sizes

-- The tables hold the table of at most so many rounds, with zeros behind it, and its sizes stand in their rows. The number k of rounds is that of the
-- definition's table, and `more` says whether a round more would add a move.
pub record CaseSaturated (file : List ℕ) (rounds m e : ℕ) (z : Table) (k : ℕ) (more : Bool) (inner entries moves sizes : List ℕ) : Type 0 where
  pub saturated : saturate (rules_of file) (lent m e) rounds (own_of file) ≡ some (saturated_in z inner entries moves (k + 1) sizes)
  pub count : k ≡ rounds_added (saturated_in z inner entries moves (k + 1) sizes)
  pub more_is : more ≡ adds_move (rules_of file) (automaton_of z inner entries moves)
  pub standing : Standing z (most_moves m) (most_entries e (own_of file).J) inner entries moves
  pub entries_filled : Filled entry_row z.entries entries
  pub moves_filled : Filled move_row z.moves moves
  pub sizes_few : k ≤ 1024

-- The tables after at most so many rounds, or none where a limit is passed.
abbrev pub CaseEnds : List ℕ → ℕ → ℕ → ℕ → Answer SaturatedWords → List ℕ → List ℕ → List ℕ → List ℕ → Type 0
CaseEnds file rounds m e (Some r) inner entries moves sizes = CaseSaturated file rounds m e r.table r.rounds r.more inner entries moves sizes
CaseEnds file rounds m e None inner entries moves sizes = saturate (rules_of file) (lent m e) rounds (own_of file) ≡ none
