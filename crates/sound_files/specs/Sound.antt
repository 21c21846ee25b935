-- What a sound start file gives to the code.
-- Assumes nothing.
pub mod Laws
pub mod Rounds
use Rattle.std.specs.Prelude.{ℕ, true, ◌≡◌}
use mathlib.Core.List.{List, Memᴰ}
use Rattle.walks.specs.Cell.Formed.{Formed}
use Rattle.files.specs.Start.{Start, start_placed, starts_of, cells_of}
use Rattle.files.specs.Start.Laws.{StartFacts}

-- The bodies are in place, cells refer to lower cells, and each start names a state below 64 and a cell of order 2.
pub record StartSound (file : List ℕ) : Type 0 where
  pub in_place : start_placed file ≡ true
  pub formed : Formed (cells_of file)
  pub facts : {x : Start} → Memᴰ x (starts_of file) → StartFacts 64 (cells_of file) x
