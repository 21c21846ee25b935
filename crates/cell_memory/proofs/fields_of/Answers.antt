-- `cell_memory::fields_of` meets its contract.
-- Assumes nothing.
use Rattle.cell_memory.specs.Memory.{fields}
use Rattle.cell_memory.proofs.fields_of.Goals as goal

pub returns-in-Empty1 : goal.returns-in-Empty1
unfolding fields
returns-in-Empty1 c = rw c.in-Empty1.is

pub returns-in-Symbol : goal.returns-in-Symbol
unfolding fields
returns-in-Symbol c = rw c.in-Symbol.is

pub returns-in-Empty2 : goal.returns-in-Empty2
unfolding fields
returns-in-Empty2 c = rw c.in-Empty2.is

pub returns-in-Above : goal.returns-in-Above
unfolding fields
returns-in-Above c = rw c.in-Above.is
