-- The walk along the chain of an entry, and the loop over the entries of a control: together they offer what the control's moves give.
-- Assumes nothing.
use Rattle.std.specs.Prelude.{ℕ, suc, ◌+◌, ◌≤◌, ◌<◌, Bool, ◌&&◌, ◌≡◌, refl, get_or}
use Rattle.std.proofs.Math.Bool.{true}
use Rattle.std.proofs.Math.Path.{ap, sym}
use Rattle.std.proofs.Common.{ap₂, ◌∙◌, subst}
use Rattle.std.proofs.Math.Logic.{inl, inr, ⊎_elim}
use mathlib.Core.List.{List, Memᴰ}
use native.Mathlib.Omega.{arith}
use Rattle.std.proofs.Math.ListN.{length}
use Rattle.std.proofs.Math.Dec.{eqb}
use borrow.Author.Tests.{eqb-true, eq-eqb, ne_eqb}
use Rattle.words.specs.Lists.{each, when, places}
use Rattle.words.specs.Lists.Laws.{each_in, each_out, when_in, when_out, places_in, places_out}
use Rattle.words.specs.Laws.Tests.{and_left, and_right}
use Rattle.words.specs.Order.Laws.{number_cases}
use Rattle.automata.specs.Automaton.{Automaton, Move, Entry, no_move, no_entry, move_at, entry_of, entry_set}
use Rattle.automata.specs.Automaton.Laws.{entry_of_out}
use Rattle.automata.specs.Derivation.{Result, control_moves}
use Rattle.tables.specs.declared.Table.{Table}
use Rattle.tables.specs.Rows.{row_at, rows_in}
use Rattle.tables.specs.Rows.Laws.{length_rows_in, get_or_rows_in}
use Rattle.tables.specs.Layouts.{move_row, entry_row}
use Rattle.tables.specs.Held.{automaton_of}
use Rattle.tables.specs.Held.Laws.{row_move}
use Rattle.chains.specs.Chains.{last_below}
use Rattle.chains.specs.Chains.Laws.{last_none}
use Rattle.move_index.specs.Keys.{state_key, state_key_at}
use Rattle.offers.specs.Offers.{Covered, Collects}
use Rattle.offers.specs.Offers.Laws.{OfferedBelow, passed_none, passed_more, passed_all, collects_same, collects_none}
use Rattle.offers.specs.Offers.Alike.{gathered_none, gathered_more, gathered_all, covered_in, covered_same, collects_alike}
use Rattle.premises.specs.declared.MoveUse.{MoveUse}
use Rattle.premises.specs.Premises.{premise_results, moves_results}
use Rattle.premises.specs.Steps.{move_step}
use Rattle.control_moves.specs.Control.{chain_test, control_entry, step_at, chain_results, entry_moves, ChainDownTo}

-- ---- the walk along a chain

module _ (z : Table) (inner entries moves : List ℕ) (p a : ℕ) (u : MoveUse) (b q e : ℕ) where
  -- the key of a row
  key_is : (i : ℕ) → i < z.moves
      → state_key (move_at (automaton_of z inner entries moves) i).state (move_at (automaton_of z inner entries moves) i).symbol ≡ state_key_at moves i
  key_is i l = ap (λ (m : Move). state_key m.state m.symbol) (sym (row_move z inner entries moves i (row_at move_row moves i) l refl))

  module _ (room n : ℕ) (t : List ℕ) where
    pub walk_none : (c : ℕ) → n ≤ room + 1 → c ≡ last_below (state_key_at moves) (state_key (z.inner1 + e) b) z.moves
        → ChainDownTo (automaton_of z inner entries moves) p a u b q e room n t c n t
    walk_none c h f =
        let len : length (rows_in move_row z.moves moves) ≡ z.moves = length_rows_in move_row z.moves moves in
        gathered_none h (λ xs d.
        let l : d.0 < z.moves = omega (arith, d.2) in
        absurd (last_none (state_key_at moves) (state_key (z.inner1 + e) b) z.moves d.0 (omega (arith, d.1)) l (sym (key_is d.0 l) ∙ d.3)))

    module _ (c i r c' r' : ℕ) (t' t'' : List ℕ) (h : ChainDownTo (automaton_of z inner entries moves) p a u b q e room n t c r t')
        (ci : c ≡ suc i) (l : i < z.moves) (key : state_key_at moves i ≡ state_key (z.inner1 + e) b) (g : c' ≡ last_below (state_key_at moves) (state_key_at moves i) i) where
      -- the move is on the chain
      step_in : Covered (automaton_of z inner entries moves) (step_at (automaton_of z inner entries moves) p a u b q i) (chain_results (automaton_of z inner entries moves) p a u b q e)
      unfolding chain_results move_at
      step_in = covered_in (λ x m.
          let len : length (rows_in move_row z.moves moves) ≡ z.moves = length_rows_in move_row z.moves moves in
          each_in (step_at (automaton_of z inner entries moves) p a u b q)
          (places_in (chain_test (z.inner1 + e) b) (rows_in move_row z.moves moves) no_move i (omega arith) (eq-eqb _ _ (key_is i l ∙ key))) m)

      pub walk_more : Collects (automaton_of z inner entries moves) room r t' (move_step (automaton_of z inner entries moves) p a u b q (row_at move_row moves i)) r' t'' → length t'' ≡ length t'
          → ChainDownTo (automaton_of z inner entries moves) p a u b q e room n t c' r' t''
      unfolding step_at
      walk_more d long =
          let len : length (rows_in move_row z.moves moves) ≡ z.moves = length_rows_in move_row z.moves moves in
          let same : move_step (automaton_of z inner entries moves) p a u b q (row_at move_row moves i) ≡ step_at (automaton_of z inner entries moves) p a u b q i =
          ap (move_step (automaton_of z inner entries moves) p a u b q) (row_move z inner entries moves i (row_at move_row moves i) l refl) in
          gathered_more (step_at (automaton_of z inner entries moves) p a u b q i) h (collects_same same d) long step_in
          (λ xs v. ⊎_elim
          (λ below.
          let y : v.0 < z.moves = omega (arith, v.2) in
          absurd (last_none (state_key_at moves) (state_key_at moves i) i v.0 (omega (arith, v.1)) below (sym (key_is v.0 y) ∙ v.3 ∙ sym key)))
          (⊎_elim
          (λ equal. inr (subst (λ ys. Covered (automaton_of z inner entries moves) ys (step_at (automaton_of z inner entries moves) p a u b q i))
          (sym (v.4 ∙ ap (step_at (automaton_of z inner entries moves) p a u b q) equal)) covered_same))
          (λ above. inl (v.0, omega arith, v.2, v.3, v.4)))
          (number_cases v.0 i))

    pub walk_all : (c r : ℕ) (t' : List ℕ) → ChainDownTo (automaton_of z inner entries moves) p a u b q e room n t c r t' → c ≤ 0
        → Collects (automaton_of z inner entries moves) room n t (chain_results (automaton_of z inner entries moves) p a u b q e) r t'
    unfolding chain_results move_at
    walk_all c r t' h l = gathered_all h (λ x m.
        let w = each_out (places (chain_test (z.inner1 + e) b) (rows_in move_row z.moves moves)) (step_at (automaton_of z inner entries moves) p a u b q) m in
        let v = places_out (chain_test (z.inner1 + e) b) (rows_in move_row z.moves moves) no_move w.1 in
        inr (step_at (automaton_of z inner entries moves) p a u b q w.0, (w.0, omega arith, v.0, eqb-true _ _ v.1, refl), w.2))

    -- ---- one entry

    module _ (x : Entry) (l : e < z.entries) (f : x ≡ row_at entry_row entries e) where
      entry_is : get_or (rows_in entry_row z.entries entries) e no_entry ≡ x
      entry_is = get_or_rows_in entry_row z.entries entries e no_entry l ∙ sym f

      pub entry_other : n ≤ room + 1 → (x.control ≡ q → ⊥) → Collects (automaton_of z inner entries moves) room n t (entry_moves (automaton_of z inner entries moves) p a u b q e) n t
      unfolding entry_moves when
      entry_other h d =
          collects_same
          (sym (ap (λ (y : Entry). when (control_entry q y) (chain_results (automaton_of z inner entries moves) p a u b q e)) entry_is
          ∙ ap (λ (y : Bool). when y (chain_results (automaton_of z inner entries moves) p a u b q e)) (ne_eqb x.control q d)))
          (collects_none n t h)

      pub entry_own : (r : ℕ) (t' : List ℕ) → x.control ≡ q → Collects (automaton_of z inner entries moves) room n t (chain_results (automaton_of z inner entries moves) p a u b q e) r t'
          → Collects (automaton_of z inner entries moves) room n t (entry_moves (automaton_of z inner entries moves) p a u b q e) r t'
      unfolding entry_moves when
      entry_own r t' d c =
          collects_same
          (sym (ap (λ (y : Entry). when (control_entry q y) (chain_results (automaton_of z inner entries moves) p a u b q e)) entry_is
          ∙ ap (λ (y : Bool). when y (chain_results (automaton_of z inner entries moves) p a u b q e)) (eq-eqb x.control q d)))
          c

-- ---- the entries of a control

module _ (A : Automaton) (p a : ℕ) (k : MoveUse) (b q : ℕ) where
  -- what the moves of the control give is what the chains of its entries give
  by_entries_lem : {x : Result} → Memᴰ x (moves_results A p a k b q) → Memᴰ x (each (places (control_entry q) A.entries) (chain_results A p a k b q))
  unfolding moves_results control_moves chain_results step_at move_step move_at
  by_entries_lem {x} m =
      let w = each_out (control_moves A q b) (λ i. premise_results A p a k (entry_set A (move_at A i).state) (move_at A i)) m in
      let v = places_out (λ y. eqb y.symbol b && entry_of A q y.state) A.moves no_move w.1 in
      let own : entry_of A q (move_at A w.0).state ≡ true = and_right (eqb (move_at A w.0).symbol b) _ v.1 in
      let (e, st, is) = entry_of_out A q (move_at A w.0).state own in
      let sy : (move_at A w.0).symbol ≡ b = eqb-true _ _ (and_left (eqb (move_at A w.0).symbol b) _ v.1) in
      each_in (chain_results A p a k b q) (places_in (control_entry q) A.entries no_entry e is.below (eq-eqb _ _ is.control_is))
      (each_in (step_at A p a k b q) (places_in (chain_test (A.J + e) b) A.moves no_move w.0 v.0 (eq-eqb _ _ (ap₂ state_key st sy)))
      (when_in (eqb (move_at A w.0).symbol b && entry_of A q (move_at A w.0).state) v.1 w.2))

  of_control : {x : Result} → Memᴰ x (each (places (control_entry q) A.entries) (chain_results A p a k b q)) → Memᴰ x (moves_results A p a k b q)
  unfolding moves_results control_moves chain_results step_at move_step move_at
  of_control {x} m =
      let w = each_out (places (control_entry q) A.entries) (chain_results A p a k b q) m in
      let v = each_out (places (chain_test (A.J + w.0) b) A.moves) (step_at A p a k b q) w.2 in
      let l = places_out (chain_test (A.J + w.0) b) A.moves no_move v.1 in
      let (t, h) = when_out (eqb (move_at A v.0).symbol b && entry_of A q (move_at A v.0).state) (premise_results A p a k (entry_set A (move_at A v.0).state) (move_at A v.0)) v.2 in
      each_in (λ i. premise_results A p a k (entry_set A (move_at A i).state) (move_at A i))
      (places_in (λ y. eqb y.symbol b && entry_of A q y.state) A.moves no_move v.0 l.0 t) h

module _ (z : Table) (inner entries moves : List ℕ) (p a : ℕ) (k : MoveUse) (b q : ℕ) where
  -- What the moves of the first entries of the control give was offered.
  abbrev pub ControlUpTo : ℕ → ℕ → List ℕ → ℕ → ℕ → List ℕ → Type 0
  ControlUpTo room n t e r t' =
      OfferedBelow (automaton_of z inner entries moves) room (control_entry q) (rows_in entry_row z.entries entries) no_entry (chain_results (automaton_of z inner entries moves) p a k b q) n t e r t'

  module _ (room n : ℕ) (t : List ℕ) where
    pub control_none : n ≤ room + 1 → ControlUpTo room n t 0 n t
    control_none h = passed_none (automaton_of z inner entries moves) room (control_entry q) (rows_in entry_row z.entries entries) no_entry (chain_results (automaton_of z inner entries moves) p a k b q) n t h

    pub control_more : (e r r' : ℕ) (t' t'' : List ℕ) → ControlUpTo room n t e r t' → e < z.entries
        → Collects (automaton_of z inner entries moves) room r t' (entry_moves (automaton_of z inner entries moves) p a k b q e) r' t'' → length t'' ≡ length t' → ControlUpTo room n t (e + 1) r' t''
    unfolding entry_moves
    control_more e r r' t' t'' h l c long =
        let len : length (rows_in entry_row z.entries entries) ≡ z.entries = length_rows_in entry_row z.entries entries in
        passed_more (automaton_of z inner entries moves) room (control_entry q) (rows_in entry_row z.entries entries) no_entry (chain_results (automaton_of z inner entries moves) p a k b q) h (omega arith) c long

    pub control_all : (e r : ℕ) (t' : List ℕ) → ControlUpTo room n t e r t' → z.entries ≤ e
        → Collects (automaton_of z inner entries moves) room n t (moves_results (automaton_of z inner entries moves) p a k b q) r t'
    control_all e r t' h l =
        let len : length (rows_in entry_row z.entries entries) ≡ z.entries = length_rows_in entry_row z.entries entries in
        collects_alike
        (covered_in (λ x m. of_control (automaton_of z inner entries moves) p a k b q m))
        (covered_in (λ x m. by_entries_lem (automaton_of z inner entries moves) p a k b q m))
        (passed_all (automaton_of z inner entries moves) room (control_entry q) (rows_in entry_row z.entries entries) no_entry (chain_results (automaton_of z inner entries moves) p a k b q) h (omega arith))
