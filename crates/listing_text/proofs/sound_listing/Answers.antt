-- `listing_text::sound_listing` meets its contract.
-- Assumes nothing.
use mathlib.Core.Path.{refl, ap, ◌∙◌}
use native.Mathlib.Omega.{arith}
use Rattle.words.specs.Lists.{zeros}
use Rattle.services.specs.Listing.{refused_text}
use Rattle.text.specs.Written.Laws.{written_same}
use Rattle.sound_files.specs.Saturated.Laws.{table_none}
use Rattle.listing_text.specs.Prepared.Laws.{prepared}
use Rattle.listing_text.specs.Laws.Texts.{listing_exceeded}
use Rattle.listing_text.proofs.sound_listing.Goals as goal

pub saturate_case-requires : goal.saturate_case-requires
saturate_case-requires c = (
  c.requires.0.sound_case,
  record { entries_zero = refl; moves_zero = refl; inner_room = omega arith; sizes_room = omega arith },
)

pub returns-in_default-clause-written : goal.returns-in_default-clause-written
returns-in_default-clause-written c =
    let large = listing_exceeded _ _ c.requires.0 (table_none _ _ _ _ c.in_default.ensures.case_saturated) in
    written_same (ap refused_text c.from.ensures ∙ large) c.put_refused.ensures.written

pub table_lines-requires : goal.table_lines-requires
table_lines-requires c =
    let k = c.saturate_case.auto in
    (prepared c.requires.0 c.in-Some.ensures.case_saturated k.inner k.sizes, c.requires.1)
