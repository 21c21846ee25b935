-- The tables of a round in their slices, with the index of the moves.
-- Assumes nothing.
use Rattle.std.specs.Prelude.{ℕ, List}
use Rattle.tables.specs.declared.Table.{Table}
use Rattle.tables.specs.Held.{EdgesStand}
use Rattle.move_index.specs.Keys.{ByState}
use Rattle.offers.specs.Offers.{WordsIndexed}

-- The entries and moves stand in their slices, and the chains are those of all moves: by all their words, and by state and symbol.
pub record MovesIndexed (z : Table) (entries moves states words : List ℕ) : Type 0 where
  pub by_words : WordsIndexed z entries moves words
  pub by_state : ByState z.moves moves states

-- The inner edges stand in their slice too.
pub record Indexed (z : Table) (inner entries moves states words : List ℕ) : Type 0 where
  pub edges_stand : EdgesStand z inner
  pub moves_indexed : MovesIndexed z entries moves states words
