-- `guided_walk::go_on` meets its contract.
-- Assumes nothing.
use mathlib.Core.Path.{refl}
use native.Mathlib.Omega.{arith}
use Rattle.case_records.specs.Values.{the_operation}
use Rattle.guided_walk.specs.Turns.{full, short}
use Rattle.cell_steps.specs.Steps.Laws.{new_few}
use borrow.Author.Rules.{rules}
use Rattle.guided_walk.proofs.go_on.Goals as goal

pub returns-then-trace-steps : goal.returns-then-trace-steps
returns-then-trace-steps c = (full (search rules) c.counts.ensures, refl)

pub overflow_add-w : goal.overflow_add-w
overflow_add-w c = omega (arith, new_few (the_operation c.args.rule.operation), c.new_cells.ensures)

pub returns-then-most-w : goal.returns-then-most-w
returns-then-most-w c = (short (search rules) (search rules) c.counts-then-most-w.ensures, refl)
