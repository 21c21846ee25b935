-- The layout of the memo table: a state as a row of words.
-- Assumes nothing.
use Rattle.std.proofs.Common.{arith}
use Rattle.tables.specs.Rows.{Layout}
use Rattle.memo_table.specs.declared.State.{State}
use Rattle.memo_table.specs.States.{state_words, state_from}
use Rattle.memo_table.specs.States.Laws.{state_length, state_back, state_same}

abbrev pub state_row : Layout State
state_row =
    record {
      width = 9;
      words = state_words;
      read = state_from;
      some_words = omega arith;
      length_words = state_length;
      read_words = state_back;
      read_same = state_same;
    }
