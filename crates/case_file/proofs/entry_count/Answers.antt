-- `case_file::entry_count` meets its contract.
-- Assumes nothing.
use Rattle.std.proofs.Common.{rules}
use Rattle.words.specs.Lists.{only}
use Rattle.files.specs.Case.{entries_of}
use Rattle.case_file.proofs.entry_count.Goals as goal

pub returns-clause-value : goal.returns-clause-value
unfolding entries_of only
returns-clause-value c = search rules
