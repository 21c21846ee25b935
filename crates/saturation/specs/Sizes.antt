-- The numbers of moves and entries after a round, in rows of two words.
-- Assumes nothing.
pub mod Laws
use Rattle.std.specs.Prelude.{ℕ, List, [], ◌∷◌}
use Rattle.automata.specs.Saturation.{Size}
use Rattle.saturation.specs.declared.Size.{Size as SizeWords}

abbrev pub the_size : ℕ → ℕ → Size
the_size moves entries = record { moves = moves; entries = entries }

-- the size that the code has read
abbrev pub as_size : SizeWords → Size
as_size s = record { moves = s.moves; entries = s.entries }

unfoldable pub size_words : Size → List ℕ
size_words x = x.moves ∷ x.entries ∷ []

abbrev pub size_from : (ℕ → ℕ) → Size
size_from f = record { moves = f 0; entries = f 1 }
