-- `sound_files::answers_refusal` meets its contract.
-- Assumes nothing.
use mathlib.Core.Path.{refl, sym}
use native.Mathlib.Omega.{arith}
use Rattle.replies.specs.Numbers.Laws.{numbered}
use Rattle.sound_files.specs.Sound.Laws.{start_sound, start_long}
use Rattle.sound_files.specs.Refusal.Laws.{files_sound, by_files, by_below, by_past}
use borrow.Author.Rules.{rules}
use Rattle.sound_files.proofs.answers_refusal.Goals as goal

pub returns-in_err-files_refusal : goal.returns-in_err-files_refusal
returns-in_err-files_refusal c = let h = by_files _ _ c.args.words 8 0 c.in_err-files_refusal.ensures (numbered _) in search (rules, h)

pub count_of-requires : goal.count_of-requires
count_of-requires c =
    let s = start_sound (files_sound _ _ (sym c.in_ok-files_refusal.ensures)) in
    let l = start_long _ s.in_place in
    omega arith

pub returns-then-words-count_of : goal.returns-then-words-count_of
returns-then-words-count_of c = by_below _ _ _ _ _ c.in_ok-files_refusal.ensures refl c.count_of.ensures.value c.if-words-count_of.true

pub returns : goal.returns
returns c = by_past _ _ _ _ _ c.in_ok-files_refusal.ensures refl c.count_of.ensures.value c.if-words-count_of.false
