-- `cell_memory::put_cell` meets its contract.
-- Assumes nothing.
use mathlib.Core.Path.{◌∙◌}
use Rattle.std.proofs.Common.{◌*◌, arith}
use Rattle.words.specs.Lists.{zeros}
use Rattle.cell_memory.specs.Memory.{with_cell}
use Rattle.cell_memory.specs.Memory.Laws.{put_is}
use Rattle.cell_memory.proofs.put_cell.Goals as goal

pub returns : goal.returns
unfolding with_cell
returns c =
    put_is c.args.cells.now _ _ (c.args.i * 68) _ _ c.args.cell (omega arith) (omega arith) (omega arith) (c.copy_from_slice.ensures.after ∙ c.fields_of.ensures) (c.fill.ensures.after (λ y e. e))
