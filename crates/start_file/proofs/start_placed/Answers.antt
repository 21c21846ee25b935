-- `start_file::start_placed` meets its contract.
-- Assumes nothing.
use mathlib.Core.Path.{sym, ◌∙◌}
use native.Mathlib.Omega.{arith}
use Rattle.files.specs.Start.{start_bodies}
use Rattle.files.specs.Start.Laws.{bodies_wrong, first_tells, bodies_long}
use Rattle.start_file.proofs.start_placed.Goals as goal

pub byte_at-requires : goal.byte_at-requires
unfolding start_bodies
byte_at-requires c = let l = bodies_long c.args.file.now (sym c.placed.ensures ∙ c.if-placed.true) in omega arith

pub returns-then-placed : goal.returns-then-placed
unfolding start_bodies
returns-then-placed c = first_tells c.args.file.now (sym c.placed.ensures ∙ c.if-placed.true) c.byte_at.ensures.value

pub returns-else-placed : goal.returns-else-placed
unfolding start_bodies
returns-else-placed c = c.if-placed.false ∙ bodies_wrong c.args.file.now (sym c.placed.ensures ∙ c.if-placed.false)
