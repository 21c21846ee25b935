-- The words of judge, by the words of a start file's cells.
-- Assumes nothing.
pub mod Laws
pub mod Writing
use Rattle.std.specs.Prelude.{ℕ, Bool, List}
use Rattle.replies.specs.Numbers.{mark_word}
use Rattle.automata.specs.Saturation.{Saturated}
use Rattle.rounds.specs.Won.{round2}
use Rattle.files.specs.Start.{Start, configuration_of}
use Rattle.sound_files.specs.Starts.{start_round}

-- a start's word, by these words of the cells, and whether a round more would add a move
unfoldable pub mark_by : Bool → List ℕ → Start → ℕ
mark_by more rounds x = mark_word more (start_round rounds x)

-- a start's word, by the recursion on its stack
unfoldable pub mark_of : Bool → Saturated → List ℕ → Start → ℕ
mark_of more T file x = mark_word more (round2 T (configuration_of file x).stack x.control)
