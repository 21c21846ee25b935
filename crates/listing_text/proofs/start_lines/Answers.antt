-- `listing_text::start_lines` meets its contract.
-- Assumes nothing.
use native.Mathlib.Omega.{arith}
use Rattle.sound_files.specs.Sound.Laws.{start_sound, start_long, starts_count, starts_few}
use Rattle.listing_text.specs.Starts.Laws.{lined_none, lined_next, lined_all}
use Rattle.listing_text.proofs.start_lines.Goals as goal

pub count_of-count-requires : goal.count_of-count-requires
count_of-count-requires c = let l = start_long _ (start_sound c.requires.0.sound).in_place in omega arith

pub loop-n-init : goal.loop-n-init
loop-n-init c = lined_none _ _

pub start_line-end-requires : goal.start_line-end-requires
start_line-end-requires c =
    let p = c.requires in
    let few = starts_few p.0.sound in
    let count = starts_count c.args.start.now in
    let short = c.loop-n.invariant.short in
    let long = c.loop-n.invariant.long in
    (p.0, p.1, omega arith, omega arith)

pub loop-n-preserved : goal.loop-n-preserved
loop-n-preserved c =
    let w = c.start_line-end in
    lined_next c.loop-n.invariant w.ensures.written w.ensures.within w.auto.text

pub returns-clause-written : goal.returns-clause-written
returns-clause-written c =
    let p = c.requires in
    let count = starts_count c.args.start.now in
    (lined_all c.loop-n.invariant (omega arith) (starts_few p.0.sound)).0

pub returns-clause-within : goal.returns-clause-within
returns-clause-within c =
    let p = c.requires in
    let count = starts_count c.args.start.now in
    (lined_all c.loop-n.invariant (omega arith) (starts_few p.0.sound)).1
