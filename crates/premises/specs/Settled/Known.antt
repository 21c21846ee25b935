-- What an old premise gave in the round before is held.
-- Assumes nothing.
use Rattle.std.specs.Prelude.{ℕ, ◌<◌, Bool, ◌≡◌, get_or, leb}
use Rattle.std.proofs.Math.Bool.{true, ◌&&◌}
use Rattle.std.proofs.Math.Path.{ap, ap₂, sym}
use Rattle.std.proofs.Common.{◌∙◌, subst, arith}
use mathlib.Core.List.{List, [], Memᴰ}
use Rattle.std.proofs.Math.ListN.{length}
use Rattle.std.proofs.Math.Dec.{eqb}
use borrow.Author.Tests.{eq-eqb, leb-false}
use Rattle.words.specs.Lists.Laws.{each_in, places_in}
use Rattle.automata.specs.Automaton.{Automaton, Move, no_move, move_at, entry_at, entry_of, entry_set}
use Rattle.automata.specs.Derivation.{control_moves}
use Rattle.tables.specs.declared.Table.{Table}
use Rattle.tables.specs.Rows.{row_at, rows_in}
use Rattle.tables.specs.Rows.Laws.{length_rows_in, get_or_rows_in}
use Rattle.tables.specs.Layouts.{move_row}
use Rattle.tables.specs.Held.{automaton_of, table_of}
use Rattle.tables.specs.Held.Laws.{row_move}
use Rattle.offers.specs.Offers.{AllHeld}
use Rattle.readings.specs.declared.Before.{Before}
use Rattle.readings.specs.declared.Goal.{Goal}
use Rattle.readings.specs.Before.{table_before, HeldBefore}
use Rattle.premises.specs.declared.MoveUse.{MoveUse}
use Rattle.premises.specs.declared.Source.{Source}
use Rattle.premises.specs.Premises.{premise_results, moves_results, premise_gives}
use Rattle.premises.specs.Steps.Laws.{control_test}
use Rattle.premises.specs.Settled.{SettledBy, SourceHeld}
use Rattle.premises.specs.Settled.Laws.{old_known, old_premise}

-- ---- an old premise

module _ (A : Automaton) (t : Before) (p a : ℕ) (k : MoveUse) (b q : ℕ) (s : SettledBy A t (moves_results (table_before t A) p a k b q)) where
  -- what an old premise gave in the round before
  pub premise_known : (i : ℕ) → i < t.moves → Memᴰ i (control_moves A q b)
      → AllHeld A (premise_results (table_before t A) p a k (entry_set A (move_at A i).state) (move_at A i))
  unfolding moves_results
  premise_known i l m =
      let E : Automaton = table_before t A in
      let (there, same, set) = old_premise A t s q b i l m in
      record {
        all_held = λ x h. (s.held_before (old_known A t s i l)).all_held x
            (each_in (λ n. premise_results E p a k (entry_set E (move_at E n).state) (move_at E n)) there
            (subst (λ (y : Move). Memᴰ x (premise_results E p a k (entry_set E y.state) y)) same
            (subst (λ (S : ℕ). Memᴰ x (premise_results E p a k S (move_at A i))) set h)));
      }

-- ---- in the tables

module _ (z : Table) (inner entries moves : List ℕ) (p a : ℕ) (k : MoveUse) (b q : ℕ) where
  -- a premise of the code's loop
  pub there : (i : ℕ) → i < z.moves → control_test z inner entries moves p a k b q (get_or (rows_in move_row z.moves moves) i no_move) ≡ true
      → Memᴰ i (control_moves (automaton_of z inner entries moves) q b)
  unfolding control_moves
  there i l h =
      let len : length (rows_in move_row z.moves moves) ≡ z.moves = length_rows_in move_row z.moves moves in
      places_in (λ m. eqb m.symbol b && entry_of (automaton_of z inner entries moves) q m.state) (rows_in move_row z.moves moves) no_move i (omega arith) h

module _ (z : Table) (inner entries moves : List ℕ) (to : Goal) (from : Source) (s : SourceHeld (automaton_of z inner entries moves) to from) where
  -- move i as a premise, where it passes the code's tests
  pub held_premise : (i : ℕ) (m : Move) (of new : Bool) (S : ℕ) → i < z.moves → m ≡ row_at move_row moves i → m.symbol ≡ from.symbol
      → of ≡ entry_of (table_of z entries []) from.control m.state → of ≡ true → S ≡ entry_set (table_of z entries []) m.state → new ≡ leb to.before.moves i
      → HeldBefore (automaton_of z inner entries moves) to new (premise_gives to from.kind S m)
  unfolding entry_of entry_set entry_at
  held_premise i m of new S l r y g o d u =
      let A : Automaton = automaton_of z inner entries moves in
      let p = to.control in let a = to.symbol in let k = from.kind in let b = from.symbol in let q = from.control in
      let same : m ≡ move_at A i = row_move z inner entries moves i m l r in
      let test : control_test z inner entries moves p a k b q m ≡ true = ap₂ ◌&&◌ (eq-eqb m.symbol b y) (sym g ∙ o) in
      record {
        settles = s.settles;
        known = record {
          known = λ f.
              let old : i < to.before.moves = leb-false to.before.moves i (sym u ∙ f) in
              let row : control_test z inner entries moves p a k b q (get_or (rows_in move_row z.moves moves) i no_move) ≡ true =
              ap (control_test z inner entries moves p a k b q) (get_or_rows_in move_row z.moves moves i no_move l ∙ sym r) ∙ test in
              rw d
              (subst (λ (n : Move). AllHeld A (premise_results (table_before to.before A) p a k (entry_set A n.state) n)) (sym same)
              (premise_known A to.before p a k b q s.settled_by i old (there z inner entries moves p a k b q i l row)));
        };
      }
