-- `cell_memory::put_choices` meets its contract.
-- Assumes nothing.
use Rattle.std.proofs.Common.{◌+◌, ◌*◌, arith}
use Rattle.cell_memory.specs.Memory.{with_choices}
use Rattle.cell_memory.specs.Memory.Laws.{part_put}
use Rattle.cell_memory.proofs.put_choices.Goals as goal

pub returns : goal.returns
unfolding with_choices
returns c = rw c.copy_from_slice.ensures.after (part_put c.args.cells.now c.args.choices.now (c.args.i * 68 + 4) _ (omega arith) (omega arith))
