-- `tables::insertion::put_between` meets its contract. The invariant: the first i words are written.
-- Assumes nothing.
use mathlib.Core.Path.{ap, ◌∙◌}
use Prim.Native.Nat.{ℕ}
use mathlib.Core.List.{List}
use lib.ListN.{length}
use Rattle.std.proofs.Math.Seq.{paste}
use Rattle.words.specs.Copied.Laws.{copied_none, copied_more, copied_all}
use borrow.Author.Rules.{rules}
use Rattle.tables.proofs.insertion.put_between.Goals as goal

pub loop-i-init : goal.loop-i-init
loop-i-init c = copied_none _ _ _

pub loop-i-preserved : goal.loop-i-preserved
loop-i-preserved c = copied_more c.loop-i.invariant (search rules) (search rules)

pub returns : goal.returns
returns c =
    copied_all c.loop-i.invariant (search rules)
    ∙ ap (λ (t : List ℕ). paste t c.args.at c.args.x.now (length c.args.x.now)) c.open_words.ensures
