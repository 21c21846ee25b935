-- `bytes_in::count_of` meets its contract.
-- Assumes nothing.
use Rattle.files.specs.Bytes.{count_of}
use borrow.Author.Rules.{rules}
use Rattle.bytes_in.proofs.count_of.Goals as goal

pub returns-clause-value : goal.returns-clause-value
unfolding count_of
returns-clause-value c = search rules
