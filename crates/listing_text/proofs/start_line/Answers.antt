-- `listing_text::start_line` meets its contract.
-- Assumes nothing.
use mathlib.Core.Path.{refl, sym}
use native.Mathlib.Omega.{arith}
use Rattle.words.specs.Lists.{zeros}
use Rattle.automata.specs.Saturation.{all_rounds}
use Rattle.demands.specs.Laws.Accepted.{round_small}
use Rattle.start_file.specs.Checks.{files_of}
use Rattle.text.specs.Written.Laws.{written_same}
use Rattle.sound_files.specs.Sound.Laws.{start_sound, starts_few}
use Rattle.listing_text.specs.Laws.Texts.{round_won_lem, line_guided}
use borrow.Author.Rules.{rules}
use Rattle.listing_text.proofs.start_line.Goals as goal

pub guide_with_rounds-reply-requires : goal.guide_with_rounds-reply-requires
guide_with_rounds-reply-requires c =
    let p = c.requires in
    let s = p.0.sound in
    (record { case_sound = s.sound_case; start_is = start_sound s; tables = p.0.tables; start_rounds = p.1 }, p.2, refl, sym p.0.nothing_left)

pub start_accepted-won-requires : goal.start_accepted-won-requires
start_accepted-won-requires c =
    let p = c.requires in
    (start_sound p.0.sound, p.2, p.1.rounds_lent)

pub put_reply_line-requires : goal.put_reply_line-requires
put_reply_line-requires c =
    let p = c.requires in
    let few = starts_few p.0.sound in
    let is = round_won_lem _ _ p.0 p.1 p.2 c.start_accepted-won.ensures.value c.round_of-round.ensures in
    let small = round_small (files_of c.args.case.now c.args.start.now) all_rounds c.args.n in
    (omega arith, omega arith, search rules)

pub returns-clause-written : goal.returns-clause-written
returns-clause-written c =
    let p = c.requires in
    let is = round_won_lem _ _ p.0 p.1 p.2 c.start_accepted-won.ensures.value c.round_of-round.ensures in
    written_same (line_guided _ _ p.0 _ _ _ p.2 is c.guide_with_rounds-reply.ensures.reply_is) c.put_reply_line.ensures.written
