-- `replay::refusal_of` meets its contract.
-- Assumes nothing.
use mathlib.Core.Path.{refl, sym}
use native.Mathlib.Omega.{arith}
use Rattle.replies.specs.Numbers.Laws.{numbered}
use Rattle.sound_files.specs.Refusal.Laws.{sound_before}
use Rattle.sound_files.specs.Sound.Laws.{start_sound, start_long}
use Rattle.replay.specs.Service.Laws.{refusal_files, refusal_10, refusal_11, refusal_0}
use borrow.Author.Rules.{rules}
use Rattle.replay.proofs.refusal_of.Goals as goal

pub returns-in_err-number_refusal : goal.returns-in_err-number_refusal
returns-in_err-number_refusal c =
    let h = refusal_files _ _ _ c.args.trace.now c.args.bytes c.in_err-number_refusal.ensures (numbered _) in
    search (rules, h)

pub returns-then-trace-eq1 : goal.returns-then-trace-eq1
returns-then-trace-eq1 c = refusal_10 _ _ _ _ _ c.in_ok-number_refusal.ensures refl c.if-trace-eq1.true

pub count_of-requires : goal.count_of-requires
count_of-requires c =
    let none = sym c.in_ok-number_refusal.ensures in
    omega (arith, start_long _ (start_sound (sound_before _ _ _ _ _ none)).in_place)

pub returns-then-cells_lent-count_of : goal.returns-then-cells_lent-count_of
returns-then-cells_lent-count_of c =
    refusal_11 _ _ _ _ _ c.in_ok-number_refusal.ensures refl c.if-trace-eq1.false c.cells_lent.ensures c.count_of.ensures.value c.if-cells_lent-count_of.true

pub returns : goal.returns
returns c =
    refusal_0 _ _ _ _ _ c.in_ok-number_refusal.ensures refl c.if-trace-eq1.false c.cells_lent.ensures c.count_of.ensures.value c.if-cells_lent-count_of.false
