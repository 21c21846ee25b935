-- `brackets::put_brackets` meets its contract.
-- Assumes nothing.
use mathlib.Core.Path.{refl, ap, ◌∙◌}
use Rattle.words.specs.Lists.{zeros}
use Rattle.replies.specs.Numbers.Laws.{numbered}
use Rattle.bounded_text.specs.Page.Laws.{prints_to}
use Rattle.sound_files.specs.Sound.Laws.{start_sound}
use Rattle.brackets.specs.Service.Laws.{left_refused, sound, there, left_printed, left_longer}
use borrow.Author.Rules.{rules}
use Rattle.brackets.proofs.put_brackets.Goals as goal

pub returns-in_err-number_refusal : goal.returns-in_err-number_refusal
returns-in_err-number_refusal c =
    let h = left_refused _ _ _ _ c.in_err-number_refusal.ensures c.requires (numbered _) in
    search (rules, h)

pub put_start-requires : goal.put_start-requires
put_start-requires c =
    let e = c.in_ok-number_refusal.ensures in
    (start_sound (sound _ _ _ 0 e refl), there _ _ _ 0 e refl)

pub returns-in-Some : goal.returns-in-Some
returns-in-Some c = left_printed _ _ _ _ c.in_ok-number_refusal.ensures refl c.requires (prints_to c.in-Some.is c.put_start.ensures)

pub returns-in-None : goal.returns-in-None
returns-in-None c =
    left_longer _ _ _ _ c.in_ok-number_refusal.ensures refl c.requires (prints_to c.in-None.is c.put_start.ensures) (c.zero.ensures ∙ ap zeros (search rules))
