-- The layouts of the tables: each record as a row of words.
-- Assumes nothing.
use Rattle.std.proofs.Common.{arith}
use Rattle.automata.specs.Automaton.{Move, Entry, Edge, choice_key}
use Rattle.automata.specs.Derivation.{Result, result_key}
use Rattle.services.specs.Memory.{Counted, move_words, entry_words, entry_width}
use Rattle.tables.specs.Rows.{Layout}
use Rattle.tables.specs.Records.{new_words, move_from, entry_from, counted_from, edge_from, result_from}
use Rattle.tables.specs.Records.Laws.{move_length, move_back, move_same, new_length, entry_back, entry_same, counted_length, counted_back, counted_same, edge_length, edge_back, edge_same, result_length, result_back, result_same}

-- "Five words of 64 bits each, the fields in the order of body 4."
abbrev pub move_row : Layout Move
move_row =
    record {
      width = 5;
      words = move_words;
      read = move_from;
      some_words = omega arith;
      length_words = move_length;
      read_words = move_back;
      read_same = move_same;
    }

-- "(p, S, a word each)": an entry, whatever the third word of its row; written as a new one, which has no moves
abbrev pub entry_row : Layout Entry
entry_row =
    record {
      width = entry_width;
      words = new_words;
      read = entry_from;
      some_words = omega arith;
      length_words = new_length;
      read_words = entry_back;
      read_same = entry_same;
    }

-- "Keep the count as a third word of the entry": the whole row
abbrev pub counted_row : Layout Counted
counted_row =
    record {
      width = entry_width;
      words = entry_words;
      read = counted_from;
      some_words = omega arith;
      length_words = counted_length;
      read_words = counted_back;
      read_same = counted_same;
    }

-- (state, order-1 state, S)
abbrev pub edge_row : Layout Edge
edge_row =
    record {
      width = 3;
      words = choice_key;
      read = edge_from;
      some_words = omega arith;
      length_words = edge_length;
      read_words = edge_back;
      read_same = edge_same;
    }

-- (p, S, symbol, order, B, R)
abbrev pub result_row : Layout Result
result_row =
    record {
      width = 6;
      words = result_key;
      read = result_from;
      some_words = omega arith;
      length_words = result_length;
      read_words = result_back;
      read_same = result_same;
    }
