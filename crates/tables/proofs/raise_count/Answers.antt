-- `tables::raise_count` meets its contract.
-- Assumes nothing.
use Prim.Native.Nat.{◌+◌, ◌*◌, ◌<◌, ◌^◌}
use lib.ListN.{get_or}
use Rattle.services.specs.Memory.{entry_width}
use Rattle.tables.specs.Rows.{row_at}
use Rattle.tables.specs.Counts.Laws.{raised_word}
use borrow.Author.Rules.{rules}
use Rattle.tables.proofs.raise_count.Goals as goal

pub overflow_add-t : goal.overflow_add-t
unfolding row_at
overflow_add-t c =
    let small : get_or c.args.t.now (c.args.i * entry_width + 2) 0 + 1 < 2 ^ 64 = c.requires.1 in
    search rules

pub returns : goal.returns
returns c = raised_word c.args.t.now c.args.i
