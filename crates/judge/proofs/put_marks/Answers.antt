-- `judge::put_marks` meets its contract.
-- Assumes nothing.
use mathlib.Core.Path.{refl}
use Rattle.judge.specs.Marks.Writing.{marks_more}
use borrow.Author.Rules.{rules}
use Rattle.judge.proofs.put_marks.Goals as goal

pub loop-i-preserved : goal.loop-i-preserved
loop-i-preserved c =
    marks_more _ _ _ c.requires.1 c.loop-i.invariant c.loop-i-test.true (search rules) c.start_accepted.ensures.value c.mark_of.ensures refl
