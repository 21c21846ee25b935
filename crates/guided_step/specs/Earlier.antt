-- The table before a move's round, as the code holds it.
-- Assumes nothing.
pub mod Laws
use Rattle.std.specs.Prelude.{min}
use Rattle.automata.specs.Saturation.{Size}
use Rattle.tables.specs.declared.Table.{Table}

-- the table of the first so many moves and entries
abbrev pub table_up_to : Table → Size → Table
table_up_to z s =
    record {
      inner1 = z.inner1;
      final1 = z.final1;
      final2 = z.final2;
      edges = z.edges;
      entries = min s.entries z.entries;
      moves = min s.moves z.moves;
    }
