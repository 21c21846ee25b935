-- `saturate::saturate_within` meets its contract.
-- Assumes nothing.
use mathlib.Core.Path.{refl, sym, ◌∙◌}
use native.Mathlib.Omega.{arith}
use Prim.Native.Nat.{ℕ}
use lib.ListN.{length-replicate}
use Rattle.files.proofs.Case.Laws.{case_in_place}
use Rattle.saturate.specs.Case.Laws.{long_enough, own_room, given, rules_stand, case_ends, case_over, filled_own, counted_number, moves_number}
use Rattle.case_file.specs.Forms.Laws.{holds_rules}
use Rattle.tables.specs.Layouts.{counted_row, move_row}
use Rattle.tables.specs.Counts.Laws.{filled_entries}
use Rattle.saturate.proofs.saturate_within.Goals as goal

pub returns-then-not-own_fits : goal.returns-then-not-own_fits
returns-then-not-own_fits c =
    case_over _ c.requires.0 _ _ (sym c.own_fits.ensures ∙ c.if-not-own_fits.true) _

pub load_case-z-requires : goal.load_case-z-requires
load_case-z-requires c =
    (case_in_place _ c.requires.0, own_room _ c.requires.0 _ _ _ _ _ c.requires.1.inner_room refl refl (sym c.own_fits.ensures ∙ c.if-not-own_fits.false))

pub put_rules-requires : goal.put_rules-requires
put_rules-requires c = (case_in_place _ c.requires.0, omega (arith, length-replicate {A = ℕ} 1280 0))

pub count_of-count-requires : goal.count_of-count-requires
count_of-count-requires c = omega (arith, long_enough _ c.requires.0)

pub saturate_tables-requires : goal.saturate_tables-requires
saturate_tables-requires c =
    let sound = c.requires.0 in
    let fits = sym c.own_fits.ensures ∙ c.if-not-own_fits.false in (
      given _ sound _ _ c.load_case-z.result _ _ _ c.load_case-z.ensures.moves_after (omega (arith, c.requires.1.inner_room, c.load_case-z.auto.inner)) c.load_case-z.auto.entries c.load_case-z.auto.moves fits c.load_case-z.ensures.counted,
      record {
        rules_stand = rules_stand _ sound _ _ (holds_rules _ (case_in_place _ sound) c.count_of-count.ensures.value c.put_rules.ensures);
        pending_lent = c.requires.2;
        sizes_lent = c.requires.1.sizes_room;
      },
    )

pub returns : goal.returns
returns c =
    let sound = c.requires.0 in
    let rules = holds_rules _ (case_in_place _ sound) c.count_of-count.ensures.value c.put_rules.ensures in
    let entries-behind = filled_entries (filled_own counted_row _ _ _ _ c.requires.1.entries_zero c.load_case-z.ensures.entries_after (counted_number _ sound 0 0 c.load_case-z.result _ _ _ c.load_case-z.ensures.moves_after)) in
    let moves-behind = filled_own move_row _ _ _ _ c.requires.1.moves_zero c.load_case-z.ensures.moves_after_2 (moves_number _ sound 0 0 c.load_case-z.result _ _ _ c.load_case-z.ensures.moves_after) in
    case_ends _ sound _ _ c.load_case-z.result _ _ _ c.load_case-z.ensures.moves_after _ _ _ rules c.load_case-z.auto.entries c.load_case-z.auto.moves entries-behind moves-behind
    _ _ _ _ c.saturate_tables.ensures
