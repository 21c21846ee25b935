-- `first_derivation::first_entry`: what its loops keep.
use Rattle.tables.specs.Records.{as_result}
use Rattle.tables.specs.View.{entries_in}
use Rattle.first_reading.specs.Answer.{NotFoundBelow}
use Rattle.first_derivation.specs.Search.{entry_joins}
use Rattle.first_derivation.specs.Premises.{entry_gives}
use Rattle.first_derivation.proofs.first_entry.Given as goal

abbrev pub invariant-loop-e : goal.invariant-loop-e
invariant-loop-e l = NotFoundBelow l.tables.table.entries (entry_gives (entries_in l.tables) (as_result l.x) (entry_joins l.collapse) l.p) l.e
