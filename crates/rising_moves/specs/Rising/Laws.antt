-- What holds of chains by rising number: the next number with a key, chains as they are built, and chains of a smaller table.
-- Assumes nothing.
use Prim.Native.Nat.{ℕ, zero, suc, ◌+◌, ◌-◌, ◌≤◌, ◌<◌}
use Rattle.std.specs.Prelude.{true, false, ◌≡◌, List, [], replicate, eqb, ltb}
use Rattle.std.proofs.Math.Path.{refl, ap, sym}
use Rattle.std.proofs.Common.{ap₂, ◌∙◌, subst, ⊎_elim, eq-or-lt_of_le}
use native.Mathlib.Omega.{arith}
use Rattle.std.proofs.Math.ListN.{length}
use Rattle.std.proofs.lemmas.List.{length-replicate, get_or-replicate}
use borrow.Author.Tests.{eqb-true, eqb-false, eq-eqb, ne_eqb, ltb-true, ltb-false, lt-ltb, le-ltb}
use Rattle.words.specs.Laws.Tests.{by_test}
use Rattle.automata.specs.Automaton.{Automaton, Move, Entry, no_entry, entry_control, entry_of}
use Rattle.automata.specs.Automaton.Laws.{entry_control_is, entry_of_out}
use Rattle.tables.specs.declared.Table.{Table}
use Rattle.tables.specs.Rows.{row_at, rows_in}
use Rattle.tables.specs.Rows.Laws.{length_rows_in, get_or_rows_in}
use Rattle.tables.specs.Layouts.{move_row, entry_row}
use Rattle.tables.specs.Held.{table_of}
use Rattle.chains.specs.Chains.{last_below, Chained}
use Rattle.chains.specs.Chains.Laws.{last_key, last_below_lem, chained_up_to}
use Rattle.move_index.specs.Keys.{state_key, state_key_at}
use Rattle.rising_moves.specs.Rising.{next_in, next_from, from_last, Rising, StatesRise, control_key, control_key_at, ControlsRise, MovesRise}

-- ---- the next number with a key

module _ (key : ℕ → ℕ) (k : ℕ) where
  next_here : (i left : ℕ) → key i ≡ k → next_in key k i (suc left) ≡ i
  unfolding next_in
  next_here i left e = rw (next_in, eq-eqb (key i) k e)

  next_later : (i left : ℕ) → (key i ≡ k → ⊥) → next_in key k i (suc left) ≡ next_in key k (suc i) left
  unfolding next_in
  next_later i left e = rw (next_in, ne_eqb (key i) k e)

  next_start : (i : ℕ) → next_in key k i 0 ≡ i
  unfolding next_in
  next_start i = refl

  in_onward : (left i : ℕ) → (i ≤ next_in key k i left) × (next_in key k i left ≤ i + left)
  in_onward zero i = let e : next_in key k i 0 ≡ i = next_start i in (omega arith, omega arith)
  in_onward (suc left) i =
      by_test (eqb (key i) k)
      (λ t. let e : next_in key k i (suc left) ≡ i = next_here i left (eqb-true (key i) k t) in (omega arith, omega arith))
      (λ t. let e : next_in key k i (suc left) ≡ next_in key k (suc i) left = next_later i left (eqb-false (key i) k t) in
      let (a, b) = in_onward left (suc i) in
      (omega arith, omega arith))

  in_between : (left i j : ℕ) → i ≤ j → j < next_in key k i left → key j ≡ k → ⊥
  in_between zero i j l h q = let e : next_in key k i 0 ≡ i = next_start i in omega arith
  in_between (suc left) i j l h q =
      by_test (eqb (key i) k)
      (λ t. let e : next_in key k i (suc left) ≡ i = next_here i left (eqb-true (key i) k t) in omega arith)
      (λ t.
      let n : key i ≡ k → ⊥ = eqb-false (key i) k t in
      let e : next_in key k i (suc left) ≡ next_in key k (suc i) left = next_later i left n in
      ⊎_elim
      (λ (z : i ≡ j). n (ap key z ∙ q))
      (λ (z : i < j). in_between left (suc i) j z (omega arith) q)
      (eq-or-lt_of_le l))

  -- it is not below i, and at most 1,024
  pub next_onward : (i : ℕ) → i ≤ 1024 → (i ≤ next_from key k i) × (next_from key k i ≤ 1024)
  unfolding next_from
  next_onward i h = let (a, b) = in_onward (1024 - i) i in (a, omega arith)

  -- no number between has the key
  pub next_between : (i j : ℕ) → i ≤ j → j < next_from key k i → key j ≡ k → ⊥
  unfolding next_from
  next_between i j l h q = in_between (1024 - i) i j l h q

  in_key : (left i : ℕ) → next_in key k i left < i + left → key (next_in key k i left) ≡ k
  in_key zero i h = let e : next_in key k i 0 ≡ i = next_start i in absurd (omega arith)
  in_key (suc left) i h =
      by_test (eqb (key i) k)
      (λ t. let q : key i ≡ k = eqb-true (key i) k t in ap key (next_here i left q) ∙ q)
      (λ t.
      let e : next_in key k i (suc left) ≡ next_in key k (suc i) left = next_later i left (eqb-false (key i) k t) in
      ap key e ∙ in_key left (suc i) (omega arith))

  -- where there is one, it has the key
  next_key : (i : ℕ) → i ≤ 1024 → next_from key k i < 1024 → key (next_from key k i) ≡ k
  unfolding next_from
  next_key i l h = in_key (1024 - i) i (omega arith)

  -- the last element of a chain is the next number
  last_in : (left i : ℕ) → i + left ≡ 1024 → 1024 - last_below (from_last key) k left ≡ next_in key k i left
  unfolding last_below
  last_in zero i e = let f : next_in key k i 0 ≡ i = next_start i in omega arith
  last_in (suc left) i e =
      let at : 1023 - left ≡ i = omega arith in
      by_test (eqb (key i) k)
      (λ t. rw (last_below, at, t) (let f : next_in key k i (suc left) ≡ i = next_here i left (eqb-true (key i) k t) in omega arith))
      (λ t. rw (last_below, at, t) (last_in left (suc i) (omega arith) ∙ sym (next_later i left (eqb-false (key i) k t))))

  pub last_next : (i : ℕ) → i ≤ 1024 → 1024 - last_below (from_last key) k (1024 - i) ≡ next_from key k i
  unfolding next_from
  last_next i h = last_in (1024 - i) i (omega arith)

-- the last element's number fits
pub last_fits : (key : ℕ → ℕ) (k n : ℕ) {r : ℕ} → n ≤ 1024 → r ≡ last_below key k n → r ≤ 1024
last_fits key k n h e = let b : last_below key k n ≤ n = last_below_lem key k n in omega arith

-- the element of a chain before that of number i is the next number after i
pub last_after : (key : ℕ → ℕ) (i : ℕ) → i < 1024 → 1024 - last_below (from_last key) (from_last key (1024 - 1 - i)) (1024 - 1 - i) ≡ next_from key (key i) (i + 1)
last_after key i h =
    let at : 1023 - (1024 - 1 - i) ≡ i = omega arith in
    let left : 1024 - 1 - i ≡ 1024 - (i + 1) = omega arith in
    ap₂ (λ (j n : ℕ). 1024 - last_below (from_last key) (key j) n) at left ∙ last_next key (key i) (i + 1) (omega arith)

-- ---- a loop along the chain of a key

-- the next number: its bound, its key where there is one, and that it goes on
pub chain_next : (key : ℕ → ℕ) (k i : ℕ) {r : ℕ} → i ≤ 1024 → r ≡ next_from key k i → (r ≤ 1024) × (r < 1024 → key r ≡ k) × (i ≤ r)
chain_next key k i h e =
    let (a, b) = next_onward key k i h in
    (omega arith, λ l. ap key e ∙ next_key key k i h (omega arith), omega arith)

pub chain_first : (key : ℕ → ℕ) (k : ℕ) {r : ℕ} → r ≡ next_from key k 0 → (r ≤ 1024) × (r < 1024 → key r ≡ k)
chain_first key k e = let c = chain_next key k 0 (omega arith) e in (c.0, c.1)

-- It has come to i, and all numbers below i, of n, have a property that those without the key have too.
pub record Passed (key : ℕ → ℕ) (k n : ℕ) (Q : ℕ → Type 0) (i : ℕ) : Type 0 where
  pub most : i ≤ 1024
  pub here : i < 1024 → key i ≡ k
  pub before : (j : ℕ) → j < i → j < n → Q j

module _ (key : ℕ → ℕ) (k n : ℕ) (Q : ℕ → Type 0) (other : (j : ℕ) → j < n → (key j ≡ k → ⊥) → Q j) where
  pub passed_first : {i : ℕ} → i ≡ next_from key k 0 → Passed key k n Q i
  passed_first {i} e =
      let c = chain_first key k e in
      record {
        most = c.0;
        here = c.1;
        before = λ j l h. other j h (next_between key k 0 j (omega arith) (omega arith));
      }

  pub passed_after : {i r : ℕ} → Passed key k n Q i → i < 1024 → Q i → r ≡ next_from key (key i) (i + 1) → Passed key k n Q r
  passed_after {i} {r} p l q e =
      let z : key i ≡ k = p.here l in
      let f : r ≡ next_from key k (i + 1) = e ∙ ap (λ (m : ℕ). next_from key m (i + 1)) z in
      let c = chain_next key k (i + 1) (omega arith) f in
      record {
        most = c.0;
        here = c.1;
        before = λ j m h. by_test (ltb j i)
            (λ t. p.before j (ltb-true j i t) h)
            (λ t. ⊎_elim
            (λ (s : i ≡ j). subst Q s q)
            (λ (s : i < j). other j h (next_between key k (i + 1) j (omega arith) (omega arith)))
            (eq-or-lt_of_le (ltb-false j i t)));
      }

-- the number after i is above it
pub after_above : (key : ℕ → ℕ) (k i : ℕ) {r : ℕ} → i < 1024 → r ≡ next_from key k (i + 1) → i < r
after_above key k i h e = let (a, b) = next_onward key k (i + 1) (omega arith) in omega arith

-- ---- chains as they are built

-- number i is element 1,023 - i
pub turned : (key : ℕ → ℕ) {i k : ℕ} → i < 1024 → key i ≡ k → from_last key (1024 - 1 - i) ≡ k
turned key {i} h e = let at : 1023 - (1024 - 1 - i) ≡ i = omega arith in ap key at ∙ e

-- the keys of the first n numbers; each number after them has a key of its own, for which nothing is searched
unfoldable pub first_keys : ℕ → (ℕ → ℕ) → ℕ → ℕ
first_keys n key i = elim (ltb i n) [ true ↦ key i | false ↦ 2048 + i ]

module _ (n : ℕ) (key : ℕ → ℕ) where
  pub keys_there : (i : ℕ) → i < n → first_keys n key i ≡ key i
  unfolding first_keys
  keys_there i h = rw (first_keys, lt-ltb i n h)

  keys_past : (i : ℕ) → n ≤ i → first_keys n key i ≡ 2048 + i
  unfolding first_keys
  keys_past i h = rw (first_keys, le-ltb i n h)

-- no element has the key
last_absent : (key : ℕ → ℕ) (k n : ℕ) → ((j : ℕ) → j < n → key j ≡ k → ⊥) → last_below key k n ≡ 0
last_absent key k n h = go (last_below key k n) refl
  where
    go : (m : ℕ) → last_below key k n ≡ m → m ≡ 0
    go zero e = refl
    go (suc i) e = let (l, q) = last_key key k n i e in absurd (h i l q)

-- no move is entered yet
pub rising_none : (n : ℕ) (key : ℕ → ℕ) {t : List ℕ} → n ≤ 1024 → t ≡ replicate 3072 0 → Chained (from_last (first_keys n key)) (1024 - n) t
rising_none n key {t} few is = rw is (
    record {
      long = length-replicate {A = ℕ} 3072 0;
      few = omega arith;
      lasts = λ k h. get_or-replicate {A = ℕ} 3072 k 0 0 (omega arith) ∙ sym (last_absent own k (1024 - n) (λ j l q. absent k j l h q));
      befores = λ i h. get_or-replicate {A = ℕ} 3072 (2048 + i) 0 0 (omega arith) ∙ sym (last_absent own (own i) i (λ j l q. apart i j l h q));
    })
  where
    own : ℕ → ℕ
    own = from_last (first_keys n key)

    past : (j : ℕ) → j < 1024 - n → own j ≡ 2048 + (1023 - j)
    past j l = keys_past n key (1023 - j) (omega arith)

    absent : (k j : ℕ) → j < 1024 - n → k < 2048 → own j ≡ k → ⊥
    absent k j l h q = let e : own j ≡ 2048 + (1023 - j) = past j l in omega arith

    apart : (i j : ℕ) → j < i → i < 1024 - n → own j ≡ own i → ⊥
    apart i j l h q =
        let e : own j ≡ 2048 + (1023 - j) = past j (omega arith) in
        let f : own i ≡ 2048 + (1023 - i) = past i h in
        omega arith

-- move i - 1 is entered behind those from i on
pub entered : (key : ℕ → ℕ) (i : ℕ) {t u : List ℕ} → 0 < i → i ≤ 1024 → (Chained (from_last key) (1023 - (i - 1)) t → Chained (from_last key) (1023 - (i - 1) + 1) u)
    → Chained (from_last key) (1024 - i) t → Chained (from_last key) (1024 - (i - 1)) u
entered key i {t} {u} h few add c =
    chained_up_to (from_last key) (1023 - (i - 1) + 1) (1024 - (i - 1)) u (omega arith) (omega arith)
    (add (chained_up_to (from_last key) (1024 - i) (1023 - (i - 1)) t (omega arith) (omega arith) c))

-- ---- moves by state, and by control

pub states_rise : (n : ℕ) (moves : List ℕ) {t : List ℕ} → Rising (first_keys n (state_key_at moves)) t → StatesRise n moves t
states_rise n moves c = record { key = first_keys n (state_key_at moves); rising = c; key_is = λ i h. keys_there n (state_key_at moves) i h }

-- of fewer moves
states_fewer : {m n : ℕ} {moves t : List ℕ} → m ≤ n → StatesRise n moves t → StatesRise m moves t
states_fewer h s = record { key = s.key; rising = s.rising; key_is = λ i l. s.key_is i (omega arith) }

module _ (z : Table) (entries : List ℕ) where
  abbrev E : Automaton
  E = table_of z entries []

  pub key_inner : (m : Move) {k : ℕ} → m.state < z.inner1 → k ≡ state_key 8 m.symbol → k ≡ control_key E m
  unfolding control_key
  key_inner m h e = e ∙ sym (rw (control_key, lt-ltb m.state z.inner1 h))

  pub key_entry : (m : Move) {k p : ℕ} → z.inner1 ≤ m.state → p ≡ entry_control E m.state → k ≡ state_key p m.symbol → k ≡ control_key E m
  unfolding control_key
  key_entry m h p e = e ∙ ap (λ (c : ℕ). state_key c m.symbol) p ∙ sym (rw (control_key, le-ltb m.state z.inner1 h))

  -- a move of entry e
  entry_key_lem : (m : Move) (e : ℕ) → e < z.entries → m.state ≡ z.inner1 + e → control_key E m ≡ state_key (row_at entry_row entries e).control m.symbol
  unfolding control_key
  entry_key_lem m e h s =
      let l : length (rows_in entry_row z.entries entries) ≡ z.entries = length_rows_in entry_row z.entries entries in
      let row = get_or_rows_in entry_row z.entries entries e no_entry h in
      let own = entry_control_is E (record { below = omega arith; control_is = ap (λ (x : Entry). x.control) row; set_is = refl }) in
      rw (control_key, le-ltb m.state z.inner1 (omega arith)) (ap (λ (c : ℕ). state_key c m.symbol) (ap (entry_control E) s ∙ own))

  module _ (moves : List ℕ) where
    pub controls_rise : {t : List ℕ} → Rising (first_keys z.moves (control_key_at z entries moves)) t → ControlsRise z entries moves t
    controls_rise c =
        record {
          key = first_keys z.moves (control_key_at z entries moves);
          rising = c;
          key_is = λ i e h l s. keys_there z.moves (control_key_at z entries moves) i h ∙ entry_key_lem (row_at move_row moves i) e l s;
        }

    -- the key of a move of an entry of control p
    pub control_found : {t : List ℕ} (c : ControlsRise z entries moves t) (i p : ℕ) → i < z.moves → entry_of E p (row_at move_row moves i).state ≡ true
        → c.key i ≡ state_key p (row_at move_row moves i).symbol
    control_found c i p h o =
        let (e, s, is) = entry_of_out E p (row_at move_row moves i).state o in
        let l : length (rows_in entry_row z.entries entries) ≡ z.entries = length_rows_in entry_row z.entries entries in
        let b : e < z.entries = omega (arith, is.below) in
        let own : (row_at entry_row entries e).control ≡ p =
        ap (λ (x : Entry). x.control) (sym (get_or_rows_in entry_row z.entries entries e no_entry b)) ∙ is.control_is in
        c.key_is i e h b s ∙ ap (λ (k : ℕ). state_key k (row_at move_row moves i).symbol) own

-- of fewer moves and entries
controls_fewer : {y z : Table} {entries moves t : List ℕ} → y.inner1 ≡ z.inner1 → y.entries ≤ z.entries → y.moves ≤ z.moves
    → ControlsRise z entries moves t → ControlsRise y entries moves t
controls_fewer same es ms c =
    record { key = c.key; rising = c.rising; key_is = λ i e h l s. c.key_is i e (omega arith) (omega arith) (s ∙ ap (λ (k : ℕ). k + e) same) }

pub rise_fewer : {y z : Table} {entries moves states controls : List ℕ} → y.inner1 ≡ z.inner1 → y.entries ≤ z.entries → y.moves ≤ z.moves
    → MovesRise z entries moves states controls → MovesRise y entries moves states controls
rise_fewer same es ms r = record { by_state = states_fewer ms r.by_state; by_control = controls_fewer same es ms r.by_control }
