-- What the table of the round before gives by a premise is held; where nothing is new for its reading, that is all it gives.
-- Assumes nothing.
use Rattle.std.specs.Prelude.{ℕ, ◌<◌, Bool, ◌&&◌, ◌≡◌, refl}
use Rattle.std.proofs.Math.Bool.{false}
use Rattle.std.proofs.Math.Path.{ap}
use Rattle.std.proofs.Common.{sym, ◌∙◌}
use Rattle.std.proofs.Math.Option.{Option, none, some}
use mathlib.Core.List.{List, [], ◌∷◌, Memᴰ}
use native.Mathlib.Omega.{arith}
use Rattle.std.proofs.Math.ListN.{length, length-take}
use Rattle.std.proofs.Math.Dec.{eqb}
use Rattle.words.specs.Sets.{join, single, members}
use Rattle.words.specs.Lists.Laws.{when_in, when_out, places_in, places_out}
use Rattle.words.specs.Laws.Tests.{by_test}
use Rattle.automata.specs.Automaton.{Automaton, Entry, no_move, edges, edge_at, move_at, entry_at, entry_of, entry_set}
use Rattle.automata.specs.Automaton.Laws.{moves_of_out, edges_of_out}
use Rattle.automata.specs.Derivation.{Result, Joins, control_moves}
use Rattle.automata.specs.Facts.{Extends}
use Rattle.automata.specs.Facts.Laws.{move_at_kept, entry_at_same}
use Rattle.automata.specs.Saturation.{up_to}
use Rattle.automata.proofs.Saturation.Laws.{up_to_extends}
use Rattle.readings.specs.Readings.{read_results, edge_results}
use Rattle.readings.specs.Readings.Earlier.{edges_out, read_all_old, edges_old}
use Rattle.premises.specs.declared.MoveUse.{MoveUse}
use Rattle.premises.specs.declared.MoveUse.TheVariants.{Rewritten, Pushed1, Pushed2, Copied}
use Rattle.readings.specs.declared.Before.{Before}
use Rattle.readings.specs.Before.{table_before}
use Rattle.premises.specs.Premises.{order_fits, premise_results}
use Rattle.premises.specs.Settled.{SettledBy}

-- ---- readings in which nothing is new

module _ {E A : Automaton} (x : Extends E A) (p a : ℕ) (old : (i : ℕ) → i < length A.moves → (move_at A i).symbol ≡ a → i < length E.moves) where
  read_same : (S R : ℕ) (j : Joins) {y : Result} → Memᴰ y (read_results A p a S (members R) j) → Memᴰ y (read_results E p a S (members R) j)
  read_same S R j m = read_all_old x p a S (members R) j (λ r i _ d. let g = moves_of_out A r a d in old i g.below g.symbol_is) m

  edges_same : (j : Joins) (qs : List ℕ) (N S : ℕ) {y : Result} → length (edges E) ≡ length (edges A)
      → Memᴰ y (edge_results A p a j qs N S) → Memᴰ y (edge_results E p a j qs N S)
  unfolding edge_results
  edges_same j [] N S e m = read_same S N j m
  edges_same j (q ∷ qs) N S e m =
      let f = edges_out A p a j q qs N S m in
      let b : f.number < length (edges E) = let g = (edges_of_out A q f.there).below in omega arith in
      edges_old x p a j q qs N S f.number f.there b
      (edges_same j qs (join N (single (edge_at A f.number).first)) (join S (edge_at A f.number).S) e f.rest)

  -- what a premise gives
  pub premise_same : (k : MoveUse) (S : ℕ) (m : _) {y : Result} → (k ≡ Copied → length (edges E) ≡ length (edges A))
      → Memᴰ y (premise_results A p a k S m) → Memᴰ y (premise_results E p a k S m)
  unfolding premise_results
  premise_same Rewritten S m c i = i
  premise_same Pushed1 S m c i =
      let (t, d) = when_out (order_fits 1 m) (read_results A p a S (members m.R) (record { order = 0; B = 0; R = m.B })) i in
      when_in (order_fits 1 m) t (read_same S m.R (record { order = 0; B = 0; R = m.B }) d)
  premise_same Pushed2 S m c i =
      let (t, d) = when_out (order_fits 2 m) (read_results A p a (join S m.B) (members m.R) (record { order = 0; B = 0; R = 0 })) i in
      when_in (order_fits 2 m) t (read_same (join S m.B) m.R (record { order = 0; B = 0; R = 0 }) d)
  premise_same Copied S m c i = edges_same (record { order = m.order; B = m.B; R = m.R }) (members S) 0 0 (c refl) i

-- ---- an old premise

module _ (A : Automaton) (t : Before) {xs : List Result} (s : SettledBy A t xs) where
  pub length_moves : length (table_before t A).moves ≡ t.moves
  unfolding up_to
  length_moves = let e = length-take t.moves A.moves in let b = s.moves_before in omega arith

  pub length_entries : length (table_before t A).entries ≡ t.entries
  unfolding up_to
  length_entries = let e = length-take t.entries A.entries in let b = s.entries_before in omega arith

  -- in round 1 there is no old move
  pub old_known : (i : ℕ) → i < t.moves → t.new ≡ false
  old_known i b = by_test t.new (λ e. let z = (s.none_before e).0 in absurd (omega arith)) (λ e. e)

  pub old_entry_known : (i : ℕ) → i < t.entries → t.new ≡ false
  old_entry_known i b = by_test t.new (λ e. let z = (s.none_before e).1 in absurd (omega arith)) (λ e. e)

  -- the entry of an old move's state
  entry_before : (i : ℕ) → i < t.moves → entry_at A (move_at A i).state ≡ entry_at (table_before t A) (move_at A i).state
  unfolding up_to
  entry_before i b =
      let l = s.states_before i b in
      let e = length_entries in
      entry_at_same (up_to_extends (record { moves = t.moves; entries = t.entries }) A) (move_at A i).state (omega arith)

  pub old_premise : (q b i : ℕ) → i < t.moves → Memᴰ i (control_moves A q b)
      → Memᴰ i (control_moves (table_before t A) q b) × (move_at A i ≡ move_at (table_before t A) i)
      × (entry_set A (move_at A i).state ≡ entry_set (table_before t A) (move_at A i).state)
  unfolding control_moves entry_of entry_set move_at
  old_premise q b i l m =
      let v = places_out (λ y. eqb y.symbol b && entry_of A q y.state) A.moves no_move m in
      let n : i < length (table_before t A).moves = let e = length_moves in omega arith in
      let k : move_at A i ≡ move_at (table_before t A) i = move_at_kept (up_to_extends _ A) i n in
      let o : entry_of A q (move_at A i).state ≡ entry_of (table_before t A) q (move_at A i).state =
      ap (λ (y : Option Entry). elim y [ none ↦ false | some e ↦ eqb e.control q ]) (entry_before i l) in (
        places_in (λ y. eqb y.symbol b && entry_of (table_before t A) q y.state) (table_before t A).moves no_move i n
            (ap (λ y. eqb y.symbol b && entry_of (table_before t A) q y.state) (sym k)
            ∙ ap (λ (y : Bool). eqb (move_at A i).symbol b && y) (sym o) ∙ v.1),
        k,
        ap (λ (y : Option Entry). elim y [ none ↦ 0 | some e ↦ e.S ]) (entry_before i l),
      )

-- ---- fewer results

pub settled_within : (A : Automaton) (t : Before) (xs ys : List Result) → ((x : Result) → Memᴰ x ys → Memᴰ x xs) → SettledBy A t xs → SettledBy A t ys
settled_within A t xs ys h s =
    record {
      moves_before = s.moves_before;
      entries_before = s.entries_before;
      states_before = s.states_before;
      none_before = s.none_before;
      held_before = λ e. record { all_held = λ x m. (s.held_before e).all_held x (h x m) };
    }
