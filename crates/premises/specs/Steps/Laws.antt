-- The turns of the loop over premises.
-- Assumes nothing.
use Rattle.std.specs.Prelude.{ℕ, ◌+◌, ◌≤◌, ◌<◌, Bool, false, ◌≡◌, List, [], get_or}
use Rattle.std.proofs.Math.Bool.{true, ◌&&◌, and-false}
use Rattle.std.proofs.Common.{ap, ◌∙◌, arith, eq-eqb, ne_eqb}
use Rattle.std.proofs.Math.Path.{ap₂, sym}
use Rattle.std.proofs.Math.ListN.{length}
use Rattle.std.proofs.Math.Dec.{eqb}
use Rattle.words.specs.Lists.{when}
use Rattle.automata.specs.Automaton.{Move, no_move, move_at, entry_at, entry_of, entry_set}
use Rattle.automata.specs.Derivation.{Result, control_moves}
use Rattle.tables.specs.declared.Table.{Table}
use Rattle.tables.specs.Rows.{row_at, rows_in}
use Rattle.tables.specs.Rows.Laws.{length_rows_in, get_or_rows_in}
use Rattle.tables.specs.Layouts.{move_row}
use Rattle.tables.specs.Held.{automaton_of, table_of}
use Rattle.offers.specs.Offers.{AllHeld, Collects}
use Rattle.offers.specs.Offers.Alike.{passed_past}
use Rattle.offers.specs.Offers.Laws.{OfferedBelow, passed_more, passed_all, collects_same, collects_none}
use Rattle.premises.specs.declared.MoveUse.{MoveUse}
use Rattle.premises.specs.Premises.{premise_results, moves_results}
use Rattle.premises.specs.Steps.{move_step}

-- ---- moves of one control

module _ (z : Table) (inner entries moves : List ℕ) (p a : ℕ) (k : MoveUse) (b q : ℕ) where
  -- what is asked of a premise
  abbrev pub control_test : Move → Bool
  control_test m = eqb m.symbol b && entry_of (automaton_of z inner entries moves) q m.state

  -- what move number i gives, where it is a premise
  unfoldable pub move_offers : ℕ → List Result
  move_offers i =
      premise_results (automaton_of z inner entries moves) p a k
      (entry_set (automaton_of z inner entries moves) (move_at (automaton_of z inner entries moves) i).state)
      (move_at (automaton_of z inner entries moves) i)

  -- What the first i moves give was offered.
  abbrev pub MovesUpTo : ℕ → ℕ → List ℕ → ℕ → ℕ → List ℕ → Type 0
  MovesUpTo room n t i r t' = OfferedBelow (automaton_of z inner entries moves) room control_test (rows_in move_row z.moves moves) no_move move_offers n t i r t'

  module _ (room n : ℕ) (t : List ℕ) where
    -- what the first i moves give is held
    pub moves_past : (i : ℕ) → n ≤ room + 1 → i ≤ z.moves
        → ((m : ℕ) → m < i → control_test (get_or (rows_in move_row z.moves moves) m no_move) ≡ true → AllHeld (automaton_of z inner entries moves) (move_offers m)) → MovesUpTo room n t i n t
    moves_past i h b k =
        let len : length (rows_in move_row z.moves moves) ≡ z.moves = length_rows_in move_row z.moves moves in
        passed_past (automaton_of z inner entries moves) room control_test (rows_in move_row z.moves moves) no_move move_offers n t i h (omega arith) k

    pub moves_more : (i r : ℕ) (t' : List ℕ) (r' : ℕ) (t'' : List ℕ) → MovesUpTo room n t i r t' → i < z.moves
        → Collects (automaton_of z inner entries moves) room r t' (move_step (automaton_of z inner entries moves) p a k b q (row_at move_row moves i)) r' t''
        → length t'' ≡ length t' → MovesUpTo room n t (i + 1) r' t''
    unfolding move_step move_offers move_at
    moves_more i r t' r' t'' h l c e =
        let len : length (rows_in move_row z.moves moves) ≡ z.moves = length_rows_in move_row z.moves moves in
        passed_more (automaton_of z inner entries moves) room control_test (rows_in move_row z.moves moves) no_move move_offers h (omega arith)
        (collects_same (ap (move_step (automaton_of z inner entries moves) p a k b q) (sym (get_or_rows_in move_row z.moves moves i no_move l))) c) e

    pub moves_all : (i r : ℕ) (t' : List ℕ) → MovesUpTo room n t i r t' → z.moves ≤ i
        → Collects (automaton_of z inner entries moves) room n t (moves_results (automaton_of z inner entries moves) p a k b q) r t'
    unfolding moves_results control_moves move_offers
    moves_all i r t' h l =
        let len : length (rows_in move_row z.moves moves) ≡ z.moves = length_rows_in move_row z.moves moves in
        passed_all (automaton_of z inner entries moves) room control_test (rows_in move_row z.moves moves) no_move move_offers h (omega arith)

  -- ---- one move

  module _ (room n : ℕ) (t : List ℕ) (m : Move) (i : ℕ) (e : m ≡ row_at move_row moves i) (h : n ≤ room + 1) where
    step_none : control_test m ≡ false → Collects (automaton_of z inner entries moves) room n t (move_step (automaton_of z inner entries moves) p a k b q (row_at move_row moves i)) n t
    unfolding move_step when
    step_none f = collects_same (sym (ap (move_step (automaton_of z inner entries moves) p a k b q) (sym e) ∙ rw (f, when))) (collects_none n t h)

    pub step_other : (m.symbol ≡ b → ⊥) → Collects (automaton_of z inner entries moves) room n t (move_step (automaton_of z inner entries moves) p a k b q (row_at move_row moves i)) n t
    step_other f = step_none (ap (λ (x : Bool). x && entry_of (automaton_of z inner entries moves) q m.state) (ne_eqb m.symbol b f))

    pub step_control : (of : Bool) → of ≡ entry_of (table_of z entries []) q m.state → of ≡ false
        → Collects (automaton_of z inner entries moves) room n t (move_step (automaton_of z inner entries moves) p a k b q (row_at move_row moves i)) n t
    unfolding entry_of entry_at
    step_control of f g = step_none (ap (λ (x : Bool). eqb m.symbol b && x) (sym f ∙ g) ∙ and-false (eqb m.symbol b))

    pub step_premise : (of : Bool) (S r : ℕ) (t' : List ℕ) → m.symbol ≡ b → of ≡ entry_of (table_of z entries []) q m.state → of ≡ true
        → S ≡ entry_set (table_of z entries []) m.state
        → Collects (automaton_of z inner entries moves) room n t (premise_results (automaton_of z inner entries moves) p a k S m) r t'
        → Collects (automaton_of z inner entries moves) room n t (move_step (automaton_of z inner entries moves) p a k b q (row_at move_row moves i)) r t'
    unfolding move_step when entry_of entry_set entry_at
    step_premise of S r t' f g o s c =
        let test : control_test m ≡ true = ap₂ ◌&&◌ (eq-eqb m.symbol b f) (sym g ∙ o) in
        collects_same
        (ap (λ (x : ℕ). premise_results (automaton_of z inner entries moves) p a k x m) s
        ∙ sym (ap (move_step (automaton_of z inner entries moves) p a k b q) (sym e) ∙ rw (test, when)))
        c
