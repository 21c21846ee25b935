-- The tables of a sound case after saturation: they hold the table of at most so many rounds and keep what acceptance asks, or there is none.
-- Assumes nothing.
use Rattle.std.specs.Prelude.{ℕ, ◌+◌, Bool, ◌≡◌, refl, List}
use Rattle.std.proofs.Math.Option.{none, some}
use Rattle.automata.specs.Saturation.{saturate}
use Rattle.files.specs.Case.{case_refusal, rules_of, own_of}
use Rattle.services.specs.Memory.{lent}
use Rattle.services.specs.Saturate.{saturated}
use Rattle.tables.specs.declared.Table.{Table}
use Rattle.saturation.specs.Held.{saturated_in}
use Rattle.one_round.specs.Rounding.Laws.{standing_entries, standing_moves}
use Rattle.saturate.specs.Case.{CaseSaturated}
use Rattle.acceptance.specs.Named.{TablesNamed}
use Rattle.acceptance.specs.Table.Laws.{stands, table_small}
use Rattle.sound_files.specs.Saturated.{lent_of}

module _ {case : List ℕ} {rounds m e : ℕ} {z : Table} {k : ℕ} {more : Bool} {inner entries moves sizes : List ℕ}
    (C : CaseSaturated case rounds m e z k more inner entries moves sizes) where
  pub table_there : saturated (lent_of case m e) rounds ≡ some (saturated_in z inner entries moves (k + 1) sizes)
  unfolding saturated
  table_there = C.saturated

  pub table_stands : case_refusal case ≡ 0 → TablesNamed z inner entries moves
  table_stands sound =
      let s = C.standing in
      stands (table_small (lent_of case m e) rounds sound table_there) (record {
        is = refl;
        edges_lent = s.edges.edges_lent;
        entries_lent = (standing_entries _ _ _ _ _ _ s).entries_lent;
        moves_lent = (standing_moves _ _ _ _ _ _ s).moves_lent;
      })

pub table_none : (case : List ℕ) (rounds m e : ℕ) → saturate (rules_of case) (lent m e) rounds (own_of case) ≡ none → saturated (lent_of case m e) rounds ≡ none
unfolding saturated
table_none case rounds m e h = h
