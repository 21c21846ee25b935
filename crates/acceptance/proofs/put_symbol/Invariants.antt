-- `acceptance::put_symbol`: what its loops keep.
use Rattle.tables.specs.Rows.{rows_in}
use Rattle.tables.specs.Layouts.{move_row}
use Rattle.saturation.specs.Layout.{size_row}
use Rattle.acceptance_words.specs.Rows.{round_in}
use Rattle.acceptance.specs.Put.Turns.{SymbolTaken}
use Rattle.acceptance.proofs.put_symbol.Given as goal

abbrev pub invariant-loop-n : goal.invariant-loop-n
invariant-loop-n l = SymbolTaken (rows_in size_row l.count l.sizes) l.a l.k (round_in l.initial.rounds l.u) (round_in l.initial.rounds l.s) (rows_in move_row l.n-end l.tables.moves.now) l.initial.rounds l.i l.rounds l.round l.n
