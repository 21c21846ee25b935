-- Saturation gives what the lines of the starts ask.
-- Assumes nothing.
use Rattle.std.specs.Prelude.{ℕ, ◌*◌, ◌+◌, Bool, ◌≡◌, List, length}
use Rattle.std.proofs.Common.{arith}
use Rattle.automata.specs.Saturation.{all_rounds}
use Rattle.rounds.specs.Limits.{closed_nothing, all_closed}
use Rattle.files.specs.Case.{own_of, rules_of}
use Rattle.services.specs.Memory.{entry_width, lent}
use Rattle.services.specs.Saturate.{Lent}
use Rattle.services.specs.Judge.{more_to_add}
use Rattle.tables.specs.declared.Table.{Table}
use Rattle.saturate.specs.Case.{CaseSaturated}
use Rattle.acceptance.specs.Table.Laws.{is_saturated}
use Rattle.sound_files.specs.Refusal.{FilesSound}
use Rattle.sound_files.specs.Saturated.Laws.{table_there}
use Rattle.sound_files.specs.Saturated.{lent_of}
use Rattle.guided_start.specs.Tables.Laws.{tables_stand}
use Rattle.listing_text.specs.Prepared.{TableReady}

-- the tables of a case that fits
pub prepared : {case start : List ℕ} {z : Table} {k : ℕ} {more : Bool} {inner entries moves sizes : List ℕ} → FilesSound case start
    → CaseSaturated case all_rounds (1024 * 5) (64 * entry_width) z k more inner entries moves sizes → length inner ≡ 192 → length sizes ≡ 2050
    → TableReady case start z inner entries moves (k + 1) sizes
unfolding more_to_add
prepared {case} s C i l =
    let x : Lent = lent_of case (1024 * 5) (64 * entry_width) in
    let there = table_there C in
    record {
      sound = s;
      tables = tables_stand C s.sound_case i (omega arith);
      counts = C.standing.counts;
      table_is = there;
      nothing_left = closed_nothing (rules_of case) _ (all_closed (rules_of case) (lent x.moves x.entries) (own_of case) (is_saturated x all_rounds s.sound_case there) (omega arith));
    }
