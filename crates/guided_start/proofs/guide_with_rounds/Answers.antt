-- `guided_start::guide_with_rounds` meets its contract.
-- Assumes nothing.
use mathlib.Core.Path.{sym, ◌∙◌}
use native.Mathlib.Omega.{arith}
use Rattle.saturation.specs.Held.{saturated_by}
use Rattle.acceptance.specs.Cells.Laws.{states_below}
use Rattle.sound_files.specs.Sound.Laws.{start_long, cells_count, start_lent, start_names}
use Rattle.guided_start.specs.Run.Laws.{lent_fit, named, tested, leaves_not, leaves_short, leaves_walk}
use Rattle.guided_start.proofs.guide_with_rounds.Goals as goal

pub returns-then-not-is_won : goal.returns-then-not-is_won
returns-then-not-is_won c =
    let p = c.requires in
    let is = tested _ p.1 (saturated_by c.args.run.now) (states_below p.0.tables.stands) p.0.start_is p.0.start_rounds.rounds_stand c.start_accepted.ensures.value
    c.is_won.ensures in
    leaves_not _ _ is (c.if-not-is_won.true) p.3 c.not_accepted.ensures p.2

pub count_of-requires : goal.count_of-requires
count_of-requires c = let l = start_long _ c.requires.0.start_is.in_place in omega arith

pub returns-then-most-count_of : goal.returns-then-most-count_of
returns-then-most-count_of c =
    let p = c.requires in
    let is = tested _ p.1 (saturated_by c.args.run.now) (states_below p.0.tables.stands) p.0.start_is p.0.start_rounds.rounds_stand c.start_accepted.ensures.value
    c.is_won.ensures in
    leaves_short _ _ is (c.if-not-is_won.false) c.cells_lent-most.ensures
    (c.count_of.ensures.value ∙ sym (cells_count _)) c.if-most-count_of.true c.short_at_start.ensures p.2

pub start_at-x-requires : goal.start_at-x-requires
start_at-x-requires c =
    let p = c.requires in
    start_lent _ p.0.start_is p.1 c.start_body.ensures

pub walk_from-requires : goal.walk_from-requires
walk_from-requires c =
    let p = c.requires in
    let count = c.count_of.ensures.value ∙ sym (cells_count _) in
    let fits = c.if-most-count_of.false in
    let lent = lent_fit _ c.cells_lent-most.ensures in (
      p.0,
      (start_names _ p.0.start_is p.1 c.start_body.ensures {words = 256} (omega arith) c.start_at-x.ensures).0,
      p.2,
      omega arith,
      lent.0,
      lent.1,
    )

pub returns : goal.returns
returns c =
    let p = c.requires in
    let is = tested _ p.1 (saturated_by c.args.run.now) (states_below p.0.tables.stands) p.0.start_is p.0.start_rounds.rounds_stand c.start_accepted.ensures.value
    c.is_won.ensures in
    let x = named _ p.1 c.start_body.ensures c.start_at-x.ensures in
    leaves_walk _ _ is (c.if-not-is_won.false) c.cells_lent-most.ensures
    (c.count_of.ensures.value ∙ sym (cells_count _)) c.if-most-count_of.false x c.walk_from.ensures
