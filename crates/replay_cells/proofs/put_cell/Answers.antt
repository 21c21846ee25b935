-- `replay_cells::put_cell` meets its contract.
-- Assumes nothing.
use mathlib.Core.Path.{◌≡◌, ap}
use Rattle.cell_memory.specs.declared.Cell.{Cell}
use Rattle.cell_memory.specs.Memory.{cell_of}
use Rattle.replay_cells.specs.CellBytes.{bytes_of, put_bytes, cell_symbol}
use Rattle.replay_cells.specs.CellBytes.Laws.{put_by}
use borrow.Author.Rules.{rules}
use Rattle.replay_cells.proofs.put_cell.Goals as goal

pub overflow_cast-a : goal.overflow_cast-a
unfolding cell_of cell_symbol
overflow_cast-a c =
    let e : cell_symbol (cell_of c.args.cell) ≡ c.in-Symbol.a = ap (λ (d : Cell). cell_symbol (cell_of d)) c.in-Symbol.is in
    search rules

pub returns-in-Empty1 : goal.returns-in-Empty1
unfolding cell_of bytes_of put_bytes
returns-in-Empty1 c = put_by _ _ c.in-Empty1.is c.put_fields.ensures

pub returns-in-Symbol : goal.returns-in-Symbol
unfolding cell_of bytes_of put_bytes
returns-in-Symbol c = put_by _ _ c.in-Symbol.is c.put_fields-in-Symbol.ensures

pub returns-in-Empty2 : goal.returns-in-Empty2
unfolding cell_of bytes_of put_bytes
returns-in-Empty2 c = put_by _ _ c.in-Empty2.is c.put_fields-in-Empty2.ensures

pub returns-in-Above : goal.returns-in-Above
unfolding cell_of bytes_of put_bytes
returns-in-Above c = put_by _ _ c.in-Above.is c.put_fields-in-Above.ensures
