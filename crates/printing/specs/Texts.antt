-- A text made of two files that were read. No contract speaks of which bytes a call reads, so the files are some two byte strings.
-- Assumes nothing.
pub mod Laws
use Rattle.std.specs.Prelude.{ℕ, ◌≡◌, List, length}
use Rattle.files.specs.Start.{Files}
use Rattle.services.specs.Memory.{padded}

-- There are a case file and a start file whose text, of r bytes, stands at the beginning of the lent bytes, with zeros behind it.
pub record TextRead (text_of : Files → List ℕ) (r : ℕ) (lent : List ℕ) : Type 0 where
  pub files : Files
  pub long : r ≡ length (text_of files)
  pub text_is : lent ≡ padded (length lent) (text_of files)
