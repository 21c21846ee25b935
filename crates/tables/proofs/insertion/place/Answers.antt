-- `tables::insertion::place` meets its contract. The invariant: the first i rows come before x.
-- Assumes nothing.
use Prim.Native.Nat.{ℕ}
use mathlib.Core.Path.{ap, sym, ◌∙◌}
use mathlib.Core.List.{List}
use native.Mathlib.Omega.{arith}
use Rattle.words.specs.Order.{less}
use Rattle.tables.specs.Insertion.Laws.{placed_at}
use borrow.Author.Rules.{rules}
use Rattle.tables.proofs.insertion.place.Goals as goal

pub returns-then-not-words_before : goal.returns-then-not-words_before
returns-then-not-words_before c =
    let compared = sym (ap (λ (y : List ℕ). less y c.args.x.now) c.row_words.ensures) ∙ sym c.words_before.ensures in
    placed_at _ _ _ _ (omega arith) c.loop-i.invariant (λ h. compared ∙ c.if-not-words_before.true)

pub returns : goal.returns
returns c =
    placed_at _ _ _ _ (search rules) (λ j h. c.loop-i.invariant j (omega arith)) (λ h. absurd (omega arith))
