-- `case_tables::add_entry` meets its contract.
-- Assumes nothing.
use Rattle.std.proofs.Common.{rules}
use Rattle.case_records.specs.Values.{the_head, the_edge}
use Rattle.case_file.specs.Laws.Bodies.{entry_yes, entry_no}
use Rattle.case_tables.specs.WrittenRows.{written}
use Rattle.case_tables.proofs.add_entry.Goals as goal

pub returns-then-e-h-clause-t_after : goal.returns-then-e-h-clause-t_after
unfolding written
returns-then-e-h-clause-t_after c = rw (entry_yes (the_head c.args.h) (the_edge c.args.e) c.if-e-h.true) c.put_entry.ensures

pub returns-then-e-h-clause-value : goal.returns-then-e-h-clause-value
returns-then-e-h-clause-value c = rw (entry_yes (the_head c.args.h) (the_edge c.args.e) c.if-e-h.true) (search rules)

pub returns-else-e-h-clause-t_after : goal.returns-else-e-h-clause-t_after
unfolding written
returns-else-e-h-clause-t_after c = rw (entry_no (the_head c.args.h) (the_edge c.args.e) c.if-e-h.false) (search rules)

pub returns-else-e-h-clause-value : goal.returns-else-e-h-clause-value
returns-else-e-h-clause-value c = rw (entry_no (the_head c.args.h) (the_edge c.args.e) c.if-e-h.false) (search rules)
