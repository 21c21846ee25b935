-- `saturate::own_fits` meets its contract.
-- Assumes nothing.
use mathlib.Core.Path.{◌∙◌}
use native.Mathlib.Omega.{arith}
use borrow.Author.Tests.{lt-leb}
use Rattle.files.proofs.Case.Laws.{case_in_place}
use Rattle.saturate.specs.Case.Laws.{long_enough, moves_over, entries_tell, total_is}
use Rattle.saturate.proofs.own_fits.Goals as goal

pub count_of-requires : goal.count_of-requires
count_of-requires c = omega (arith, long_enough _ c.requires)

pub returns-else-count_of-moves : goal.returns-else-count_of-moves
returns-else-count_of-moves c =
    lt-leb _ _ (omega (arith, c.if-count_of-moves.false))
    ∙ moves_over _ c.requires c.args.moves c.args.entries (omega (arith, c.if-count_of-moves.false, c.count_of.ensures.value))

pub head_of-h-requires : goal.head_of-h-requires
head_of-h-requires c = case_in_place _ c.requires

pub entry_total-requires : goal.entry_total-requires
entry_total-requires c = case_in_place _ c.requires

pub returns-then-count_of-moves : goal.returns-then-count_of-moves
returns-then-count_of-moves c =
    entries_tell _ c.requires c.args.moves c.args.entries _ (omega (arith, c.if-count_of-moves.true, c.count_of.ensures.value)) (total_is _ c.requires c.args.moves c.args.entries _ _ c.head_of-h.ensures c.entry_total.ensures.value)
