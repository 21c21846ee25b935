-- `listing_text::table_lines` meets its contract.
-- Assumes nothing.
use native.Mathlib.Omega.{arith}
use Rattle.text.specs.Written.Laws.{written_then, written_same}
use Rattle.sound_files.specs.Sound.Laws.{start_sound}
use Rattle.sound_files.specs.Sound.Rounds.{made_zero}
use Rattle.listing_text.specs.Laws.Texts.{listing_judged}
use Rattle.listing_text.proofs.table_lines.Goals as goal

pub start_rounds-requires : goal.start_rounds-requires
start_rounds-requires c =
    let p = c.requires in
    let t = p.0.tables in
    (t.stands, t.sizes_lent, omega arith, start_sound p.0.sound, omega arith, made_zero 16384)

pub returns-clause-written : goal.returns-clause-written
returns-clause-written c =
    let p = c.requires in
    written_same (listing_judged _ _ p.0 c.largest_count-most.ensures) (written_then (written_then c.put_size_line-after_sizes.ensures.written c.put_most_line-end.ensures.written) c.start_lines.ensures.written)
