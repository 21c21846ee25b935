-- `replay_cells::put_cells`: what its loops keep.
use mathlib.Core.Path.{◌≡◌}
use lib.ListN.{length}
use Rattle.walks.specs.Cell.{cells_after}
use Rattle.case_records.specs.Values.{the_operation}
use Rattle.cell_steps.specs.Steps.{CellsPut}
use Rattle.replay_cells.specs.CellBytes.{put_bytes}
use Rattle.replay_cells.proofs.put_cells.Given as goal

abbrev pub invariant-loop-i : goal.invariant-loop-i
invariant-loop-i l = CellsPut put_bytes l.initial.cells l.n (cells_after (the_operation l.op) l.n l.x.symbol l.x.annotation l.x.rest l.x.below) l.i l.cells × (length l.cells ≡ length l.initial.cells)
