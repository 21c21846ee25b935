-- `operations::put_our_codes` meets its contract.
-- Assumes nothing.
use Rattle.words.specs.Copied.Laws.{copied_next}
use Rattle.files.specs.Codes.{our_codes}
use Rattle.operations.specs.Table.Laws.{code_ours}
use Rattle.operations.specs.Laws.Codes.{copied_ours}
use borrow.Author.Rules.{rules}
use Rattle.operations.proofs.put_our_codes.Goals as goal

pub loop-i-preserved : goal.loop-i-preserved
unfolding our_codes
loop-i-preserved c =
    rw (code_ours _ (search rules) c.line_of.ensures) (copied_next c.loop-i.invariant (search rules) (search rules))

pub returns : goal.returns
returns c = copied_ours c.loop-i.invariant (search rules) (search rules)
