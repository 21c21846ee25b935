-- Where a start stands once the cells of its file are copied.
-- Assumes nothing.
pub mod Laws
use Rattle.std.specs.Prelude.{ℕ, ◌≡◌, List, length}
use Rattle.files.specs.Start.{cells_of, configuration_at}
use Rattle.replay_step.specs.declared.Place.{Place}
use Rattle.replay_step.specs.Place.{place_configuration, PlaceStands}

-- The place has the cells of the file and the configuration of start n.
pub record StartPlace (file : List ℕ) (n : ℕ) (w : Place) (bytes : List ℕ) : Type 0 where
  pub stands : PlaceStands w bytes
  pub cells_are : w.cells ≡ length (cells_of file)
  pub configuration_is : place_configuration w bytes ≡ configuration_at file n
