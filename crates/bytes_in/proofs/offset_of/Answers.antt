-- `bytes_in::offset_of` meets its contract.
-- Assumes nothing.
use Rattle.files.specs.Bytes.{offset_of}
use borrow.Author.Rules.{rules}
use Rattle.bytes_in.proofs.offset_of.Goals as goal

pub returns-clause-value : goal.returns-clause-value
unfolding offset_of
returns-clause-value c = search rules
