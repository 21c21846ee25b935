-- `listing_text::listing` meets its contract.
-- Assumes nothing.
use mathlib.Core.Path.{refl, sym, ◌∙◌}
use native.Mathlib.Omega.{arith}
use Rattle.replies.specs.Numbers.Laws.{numbered}
use Rattle.sound_files.specs.Refusal.Laws.{files_sound}
use Rattle.listing_text.specs.Laws.Texts.{listing_refused}
use Rattle.text.specs.Laws.Printed.{printed}
use Rattle.listing_text.proofs.listing.Goals as goal

pub sound_listing-requires : goal.sound_listing-requires
sound_listing-requires c = (files_sound _ _ (sym c.in-Ok.ensures), omega arith)

pub returns-in-Ok-clause-text_after : goal.returns-in-Ok-clause-text_after
returns-in-Ok-clause-text_after c = (printed refl c.sound_listing.ensures.written c.sound_listing.ensures.within).0

pub returns-in-Err-clause-text_after : goal.returns-in-Err-clause-text_after
returns-in-Err-clause-text_after c =
    let refused = listing_refused _ _ (c.from.ensures ∙ c.in-Err.ensures) (λ z. numbered _ (sym c.from.ensures ∙ z)) in
    (printed refused c.put_refused.ensures.written (omega arith)).0

pub returns-in-Err-clause-long : goal.returns-in-Err-clause-long
returns-in-Err-clause-long c =
    let refused = listing_refused _ _ (c.from.ensures ∙ c.in-Err.ensures) (λ z. numbered _ (sym c.from.ensures ∙ z)) in
    (printed {n = 4306} refused c.put_refused.ensures.written (omega arith)).1.0
