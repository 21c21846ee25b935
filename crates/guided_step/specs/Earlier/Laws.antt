-- What holds of the table before a move's round as the code finds it, and of the result that a move stands for.
-- Assumes nothing.
use Rattle.std.specs.Prelude.{ℕ, suc, ◌+◌, ◌≤◌, ◌<◌, min, ◌≡◌, refl, get_or, take, drop}
use Rattle.std.proofs.Math.Path.{ap, sym}
use Rattle.std.proofs.Common.{◌∙◌, add-one, drop_of_length-le, length-take, drop-cons, get_or-take}
use mathlib.Core.List.{List, [], ◌∷◌}
use native.Mathlib.Omega.{arith}
use Rattle.std.proofs.Math.ListN.{length}
use Rattle.automata.specs.Automaton.{Automaton, Move, Entry, entry_at, entry_control, entry_set}
use Rattle.automata.specs.Derivation.{result_of}
use Rattle.automata.specs.Saturation.{Size, up_to, last_up_to, own_moves}
use Rattle.automata.proofs.Saturation.Laws.{last_up_to_yes, last_up_to_no}
use Rattle.tables.specs.declared.Table.{Table}
use Rattle.tables.specs.Rows.{first_of, Layout, row_at, rows_in}
use Rattle.tables.specs.Rows.Laws.{length_rows_in, get_or_rows_in, rows_in_list}
use Rattle.tables.specs.Layouts.{move_row, entry_row, edge_row}
use Rattle.tables.specs.Held.{automaton_of, table_of, entry_for, EdgesStand, EntriesStand, MovesStand}
use Rattle.first_reading.specs.Words.{TablesFew}
use Rattle.saturation.specs.Sizes.{the_size}
use Rattle.saturation.specs.Layout.{size_row}
use Rattle.guided_step.specs.Earlier.{table_up_to}

-- ---- the last size that has no more than i moves

-- The first j of the k sizes were searched: the last one that has no more than i moves is y or comes later.
pub record LastFrom (k : ℕ) (sizes : List ℕ) (i j : ℕ) (y : Size) : Type 0 where
  pub below : j ≤ k
  pub left : last_up_to (the_size 0 0) (rows_in size_row k sizes) i ≡ last_up_to y (drop j (rows_in size_row k sizes)) i

module _ (k : ℕ) (sizes : List ℕ) (i : ℕ) where
  pub last_none : LastFrom k sizes i 0 (the_size 0 0)
  last_none = record { below = omega arith; left = refl }

  next_size : {j : ℕ} {y x : Size} → LastFrom k sizes i j y → j < k → x ≡ row_at size_row sizes j
      → last_up_to (the_size 0 0) (rows_in size_row k sizes) i ≡ last_up_to y (x ∷ drop (suc j) (rows_in size_row k sizes)) i
  next_size {j} {y} {x} h l e =
      let all : List Size = rows_in size_row k sizes in
      let m : length (rows_in size_row k sizes) ≡ k = length_rows_in size_row k sizes in
      h.left
      ∙ ap (λ (r : List Size). last_up_to y r i)
      (drop-cons all j (the_size 0 0) (omega arith) ∙ ap (λ (s : Size). s ∷ drop (suc j) all) (get_or_rows_in size_row k sizes j (the_size 0 0) l ∙ sym e))

  pub last_more : {j : ℕ} {y x : Size} → LastFrom k sizes i j y → j < k → x ≡ row_at size_row sizes j → x.moves ≤ i → LastFrom k sizes i (j + 1) x
  last_more {j} {y} {x} h l e m =
      let all : List Size = rows_in size_row k sizes in
      record {
        below = omega arith;
        left = next_size h l e ∙ last_up_to_yes y x (drop (suc j) all) i m ∙ ap (λ (n : ℕ). last_up_to x (drop n all) i) (sym (add-one j));
      }

  pub last_hit : {j : ℕ} {y x : Size} → LastFrom k sizes i j y → j < k → x ≡ row_at size_row sizes j → i < x.moves
      → y ≡ last_up_to (the_size 0 0) (rows_in size_row k sizes) i
  last_hit {j} {y} {x} h l e m = sym (next_size h l e ∙ last_up_to_no y x (drop (suc j) (rows_in size_row k sizes)) i m)

  pub last_all : {j : ℕ} {y : Size} → LastFrom k sizes i j y → k ≤ j → y ≡ last_up_to (the_size 0 0) (rows_in size_row k sizes) i
  unfolding last_up_to
  last_all {j} {y} h l =
      let m : length (rows_in size_row k sizes) ≡ k = length_rows_in size_row k sizes in
      let past : length (rows_in size_row k sizes) ≤ j = omega arith in
      sym (h.left ∙ ap (λ (r : List Size). last_up_to y r i) (drop_of_length-le (rows_in size_row k sizes) past))

-- the number of moves of round 0 is that of the first size
own_first : (l : List Size) → (get_or l 0 (the_size 0 0)).moves ≡ own_moves l
unfolding own_moves
own_first [] = refl
own_first (y ∷ ys) = refl

pub own_some : (k : ℕ) (sizes : List ℕ) {x : Size} → 0 < k → x ≡ row_at size_row sizes 0 → x.moves ≡ own_moves (rows_in size_row k sizes)
own_some k sizes h e =
    ap (λ (s : Size). s.moves) (e ∙ sym (get_or_rows_in size_row k sizes 0 (the_size 0 0) h)) ∙ own_first (rows_in size_row k sizes)

pub own_none : (k : ℕ) (sizes : List ℕ) → k ≤ 0 → 0 ≡ own_moves (rows_in size_row k sizes)
unfolding rows_in first_of own_moves
own_none k sizes h = let e : k ≡ 0 = omega arith in sym (ap (λ (n : ℕ). own_moves (rows_in size_row n sizes)) e)

-- ---- the table of the first so many moves and entries

-- the first s rows of the first n
pub take_rows_in : {A : Type 0} (L : Layout A) (s n : ℕ) (t : List ℕ) → rows_in L (min s n) t ≡ take s (rows_in L n t)
take_rows_in {A} L s n t =
    let d : A = L.read (λ j. 0) in
    let l : length (rows_in L n t) ≡ n = length_rows_in L n t in
    rows_in_list L (min s n) t (take s (rows_in L n t)) d (length-take s (rows_in L n t) ∙ ap (min s) l)
    (λ i h. sym (get_or-take s (rows_in L n t) i d (omega arith) ∙ get_or_rows_in L n t i d (omega arith)))

pub up_to_is : (z : Table) {s y : Size} {e m : ℕ} → s ≡ y → e ≡ min s.entries z.entries → m ≡ min s.moves z.moves
    → record { inner1 = z.inner1; final1 = z.final1; final2 = z.final2; edges = z.edges; entries = e; moves = m } ≡ table_up_to z y
up_to_is z h e m =
    (λ i. record { inner1 = z.inner1; final1 = z.final1; final2 = z.final2; edges = z.edges; entries = e i; moves = m i }) ∙ ap (table_up_to z) h

pub table_up_to_lem : (z : Table) (inner entries moves : List ℕ) (s : Size) → automaton_of (table_up_to z s) inner entries moves ≡ up_to s (automaton_of z inner entries moves)
unfolding up_to
table_up_to_lem z inner entries moves s =
    λ i. record {
      J = z.inner1;
      final1 = z.final1;
      final2 = z.final2;
      inner = rows_in edge_row z.edges inner;
      entries = take_rows_in entry_row s.entries z.entries entries i;
      moves = take_rows_in move_row s.moves z.moves moves i;
    }

module _ {z : Table} (s : Size) where
  pub up_to_edges : {inner : List ℕ} → EdgesStand z inner → EdgesStand (table_up_to z s) inner
  up_to_edges h = record { edges_lent = h.edges_lent; firsts_small = h.firsts_small }

  pub up_to_entries : {entries : List ℕ} → EntriesStand z entries → EntriesStand (table_up_to z s) entries
  up_to_entries h = record { entries_lent = omega (arith, h.entries_lent); states_few = omega (arith, h.states_few) }

  pub up_to_moves : {moves : List ℕ} → MovesStand z moves → MovesStand (table_up_to z s) moves
  up_to_moves h = record { moves_lent = omega (arith, h.moves_lent) }

  pub up_to_few : TablesFew z → TablesFew (table_up_to z s)
  up_to_few h = record { edges_few = h.edges_few; moves_few = omega (arith, h.moves_few) }

-- ---- the result that a move stands for

pub result_is : (A : Automaton) (m : Move) {e : Entry} → e ≡ entry_for A m.state
    → record { control = e.control; S = e.S; symbol = m.symbol; order = m.order; B = m.B; R = m.R } ≡ result_of A m
unfolding result_of
result_is A m h = λ i. record { control = (h i).control; S = (h i).S; symbol = m.symbol; order = m.order; B = m.B; R = m.R }

-- it depends on nothing but the entries
pub result_table : (z : Table) (inner entries moves : List ℕ) (m : Move) → result_of (table_of z entries []) m ≡ result_of (automaton_of z inner entries moves) m
unfolding result_of entry_control entry_set entry_at
result_table z inner entries moves m = refl
