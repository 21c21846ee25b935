-- The layouts whose records tell every word of their rows: all but that of an entry without its count.
-- Assumes nothing.
use Rattle.tables.specs.Rows.{Exact}
use Rattle.tables.specs.Layouts.{move_row, counted_row, edge_row, result_row}
use Rattle.tables.specs.Records.Laws.{move_words_lem, counted_words, edge_words, result_words}

pub move_exact : Exact move_row
move_exact = record { words_read = move_words_lem }

pub counted_exact : Exact counted_row
counted_exact = record { words_read = counted_words }

pub edge_exact : Exact edge_row
edge_exact = record { words_read = edge_words }

pub result_exact : Exact result_row
result_exact = record { words_read = result_words }
