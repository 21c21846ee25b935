-- The layout of the sizes after each round: a size as a row of words.
-- Assumes nothing.
use Rattle.std.proofs.Common.{arith}
use Rattle.automata.specs.Saturation.{Size}
use Rattle.tables.specs.Rows.{Layout}
use Rattle.saturation.specs.Sizes.{size_words, size_from}
use Rattle.saturation.specs.Sizes.Laws.{size_length, size_back, size_same}

abbrev pub size_row : Layout Size
size_row =
    record {
      width = 2;
      words = size_words;
      read = size_from;
      some_words = omega arith;
      length_words = size_length;
      read_words = size_back;
      read_same = size_same;
    }
