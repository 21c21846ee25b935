-- What holds of the number of moves in the row of each entry: of a move more, of an entry more, and of the whole table.
-- Assumes nothing.
use Rattle.std.specs.Prelude.{ℕ, suc, ◌+◌, ◌-◌, ◌*◌, ◌≤◌, ◌<◌, ◌≡◌, refl, ◌⊎◌, List, [], ◌∷◌, ◌++◌, length, get_or, set, drop}
use Rattle.std.proofs.Common.{ap, ap₂, sym, ◌∙◌, subst, inl, inr, arith}
use Rattle.std.proofs.Math.Numerals.{towards_suc}
use Rattle.std.proofs.lemmas.List.{set-get_or}
use Rattle.words.specs.Lists.{zeros}
use Rattle.words.specs.Order.Laws.{number_cases}
use Rattle.automata.specs.Automaton.{Move, Entry, no_entry}
use Rattle.services.specs.Memory.{entry_words, entry_width, move_count, with_counts, Counted}
use Rattle.services.specs.Memory.Laws.{length_with_counts}
use Rattle.services.specs.Memory.Counts.{count_more, count_same, count_few, with_counts_at}
use Rattle.tables.specs.Rows.{row_at, rows_in, put_row}
use Rattle.tables.specs.Rows.Laws.{length_rows_in, get_or_rows_in, rows_in_same, rows_in_list, length_put_row, put_same, put_other, drop_put_row}
use Rattle.tables.specs.Records.{new_words}
use Rattle.tables.specs.Layouts.{entry_row, counted_row}
use Rattle.tables.specs.Laws.Filled.{Filled}
use Rattle.tables.specs.Counts.{one_more, raised, CountsAre}

-- ---- the two readings of a row

pub row_entry : (t : List ℕ) (i : ℕ) → (row_at counted_row t i).entry ≡ row_at entry_row t i
unfolding row_at
row_entry t i = refl

-- a new entry is written without moves
pub new_row : (t : List ℕ) (i : ℕ) (e : Entry) → put_row entry_row t i e ≡ put_row counted_row t i (record { entry = e; moves = 0 })
unfolding new_words
new_row t i e = refl

-- only the third word of a row is written
pub raised_word : (t : List ℕ) (i : ℕ) → set t (i * entry_width + 2) (get_or t (i * entry_width + 2) 0 + 1) ≡ raised t i
unfolding raised entry_words row_at
raised_word t i =
    let at : ℕ = i * entry_width in
    sym
    (simp towards_suc
    (ap (λ (x : List ℕ). set x (suc (suc at)) (suc (get_or t (suc (suc at)) 0)))
    (ap (λ (x : List ℕ). set x (suc at) (get_or t (suc at) 0)) (set-get_or t at 0) ∙ set-get_or t (suc at) 0)))

-- ---- a row raised

module _ (t : List ℕ) (k : ℕ) (room : k * entry_width + entry_width ≤ length t) where
  pub length_raised : length (raised t k) ≡ length t
  unfolding raised
  length_raised = length_put_row counted_row t k (one_more (row_at counted_row t k))

  raised_own : row_at counted_row (raised t k) k ≡ one_more (row_at counted_row t k)
  unfolding raised
  raised_own = put_same counted_row t k (one_more (row_at counted_row t k)) room

  raised_other : (i : ℕ) → (i < k) ⊎ (k < i) → row_at counted_row (raised t k) i ≡ row_at counted_row t i
  unfolding raised
  raised_other i d = put_other counted_row t k i (one_more (row_at counted_row t k)) d

  raised_entry : (i : ℕ) → row_at entry_row (raised t k) i ≡ row_at entry_row t i
  raised_entry i = sym (row_entry (raised t k) i) ∙ go (number_cases i k) ∙ row_entry t i
    where
      go : (i < k) ⊎ ((i ≡ k) ⊎ (k < i)) → (row_at counted_row (raised t k) i).entry ≡ (row_at counted_row t i).entry
      go (inl l) = ap (λ (c : Counted). c.entry) (raised_other i (inl l))
      go (inr (inl e)) =
          ap (λ (j : ℕ). (row_at counted_row (raised t k) j).entry) e ∙ ap (λ (c : Counted). c.entry) raised_own ∙ ap (λ (j : ℕ). (row_at counted_row t j).entry) (sym e)
      go (inr (inr l)) = ap (λ (c : Counted). c.entry) (raised_other i (inr l))

  -- the entries stay
  pub raised_entries : (n : ℕ) → rows_in entry_row n (raised t k) ≡ rows_in entry_row n t
  raised_entries n = rows_in_same entry_row n (raised t k) t (λ i l. raised_entry i)

  -- what stands behind the first rows stays
  pub drop_raised : (n : ℕ) → k < n → drop (n * entry_width) (raised t k) ≡ drop (n * entry_width) t
  unfolding raised
  drop_raised n h = drop_put_row counted_row t k n (one_more (row_at counted_row t k)) h

  pub filled_raised : (n : ℕ) → k < n → Filled entry_row n t → Filled entry_row n (raised t k)
  filled_raised n h f =
      record { behind = drop_raised n h ∙ f.behind ∙ ap (λ (l : ℕ). zeros (l - n * entry_width)) (sym length_raised) }

  -- a move of the entry more
  pub counts_raised : (J n : ℕ) (ms : List Move) (m : Move) → CountsAre J n t ms → m.state ≡ J + k → CountsAre J n (raised t k) (ms ++ (m ∷ []))
  counts_raised J n ms m h e = record { count_is = λ i l. go i l (number_cases i k) }
    where
      other : (i : ℕ) → i < n → (i < k) ⊎ (k < i) → (m.state ≡ J + i → ⊥) → (row_at counted_row (raised t k) i).moves ≡ move_count (ms ++ (m ∷ [])) (J + i)
      other i l d apart = ap (λ (c : Counted). c.moves) (raised_other i d) ∙ h.count_is i l ∙ sym (count_same ms m (J + i) apart)

      go : (i : ℕ) → i < n → (i < k) ⊎ ((i ≡ k) ⊎ (k < i)) → (row_at counted_row (raised t k) i).moves ≡ move_count (ms ++ (m ∷ [])) (J + i)
      go i l (inl d) = other i l (inl d) (λ q. omega arith)
      go i l (inr (inr d)) = other i l (inr d) (λ q. omega arith)
      go i l (inr (inl d)) =
          let own : m.state ≡ J + i = e ∙ ap (λ (j : ℕ). J + j) (sym d) in
          ap (λ (j : ℕ). (row_at counted_row (raised t k) j).moves) d
          ∙ ap (λ (c : Counted). c.moves) raised_own
          ∙ ap (λ (j : ℕ). (row_at counted_row t j).moves + 1) (sym d)
          ∙ ap (λ (j : ℕ). j + 1) (h.count_is i l)
          ∙ sym (count_more ms m (J + i) own)

-- zeros behind the rows, by either reading of them
pub filled_entries : {n : ℕ} {t : List ℕ} → Filled counted_row n t → Filled entry_row n t
filled_entries f = record { behind = f.behind }

pub filled_counted : {n : ℕ} {t : List ℕ} → Filled entry_row n t → Filled counted_row n t
filled_counted f = record { behind = f.behind }

-- ---- other changes

module _ (J n : ℕ) (t : List ℕ) (ms : List Move) (h : CountsAre J n t ms) where
  pub count_bound : (i : ℕ) → i < n → (row_at counted_row t i).moves ≤ length ms
  count_bound i l = subst (λ (k : ℕ). k ≤ length ms) (sym (h.count_is i l)) (count_few ms (J + i))

  -- a move more of a state that is none of these entries
  pub counts_passed : (m : Move) → ((i : ℕ) → i < n → m.state ≡ J + i → ⊥) → CountsAre J n t (ms ++ (m ∷ []))
  counts_passed m apart = record { count_is = λ i l. h.count_is i l ∙ sym (count_same ms m (J + i) (apart i l)) }

  -- an entry more, of which there is no move
  pub counts_new : (e : Entry) → n * entry_width + entry_width ≤ length t → move_count ms (J + n) ≡ 0 → CountsAre J (n + 1) (put_row entry_row t n e) ms
  counts_new e room none = record { count_is = λ i l. go i (number_cases i n) l }
    where
      c : Counted
      c = record { entry = e; moves = 0 }

      go : (i : ℕ) → (i < n) ⊎ ((i ≡ n) ⊎ (n < i)) → i < n + 1 → (row_at counted_row (put_row entry_row t n e) i).moves ≡ move_count ms (J + i)
      go i (inl d) l =
          ap (λ (x : List ℕ). (row_at counted_row x i).moves) (new_row t n e)
          ∙ ap (λ (x : Counted). x.moves) (put_other counted_row t n i c (inl d))
          ∙ h.count_is i d
      go i (inr (inl d)) l =
          ap₂ (λ (x : List ℕ) (j : ℕ). (row_at counted_row x j).moves) (new_row t n e) d
          ∙ ap (λ (x : Counted). x.moves) (put_same counted_row t n c room)
          ∙ sym none
          ∙ ap (λ (j : ℕ). move_count ms (J + j)) (sym d)
      go i (inr (inr d)) l = absurd (omega arith)

-- ---- the whole table

-- rows that are entries with the numbers of their moves
module _ (J n : ℕ) (t : List ℕ) (ms : List Move) (es : List Entry) (e : length es ≡ n) (r : rows_in counted_row n t ≡ with_counts ms J es) where
  row_is : (i : ℕ) → i < n → row_at counted_row t i ≡ record { entry = get_or es i no_entry; moves = move_count ms (J + i) }
  row_is i l =
      let d : Counted = record { entry = no_entry; moves = 0 } in
      sym (get_or_rows_in counted_row n t i d l) ∙ ap (λ (x : List Counted). get_or x i d) r ∙ with_counts_at ms J es i d no_entry (omega arith)

  pub rows_counts : CountsAre J n t ms
  rows_counts = record { count_is = λ i l. ap (λ (c : Counted). c.moves) (row_is i l) }

  pub rows_entries : rows_in entry_row n t ≡ es
  rows_entries = rows_in_list entry_row n t es no_entry e (λ i l. sym (row_entry t i) ∙ ap (λ (c : Counted). c.entry) (row_is i l))

-- the first rows are the entries with the numbers of their moves
pub counted_rows : (J n : ℕ) (t : List ℕ) (ms : List Move) (es : List Entry) → rows_in entry_row n t ≡ es → CountsAre J n t ms
    → rows_in counted_row n t ≡ with_counts ms J es
counted_rows J n t ms es r h =
    let len : length es ≡ n = ap length (sym r) ∙ length_rows_in entry_row n t in
    let d : Counted = record { entry = no_entry; moves = 0 } in
    rows_in_list counted_row n t (with_counts ms J es) d (length_with_counts ms J es ∙ len)
    (λ i l.
    let e : row_at entry_row t i ≡ get_or es i no_entry = sym (get_or_rows_in entry_row n t i no_entry l) ∙ ap (λ (x : List Entry). get_or x i no_entry) r in
    (λ k. record { entry = (row_entry t i ∙ e) k; moves = h.count_is i l k }) ∙ sym (with_counts_at ms J es i d no_entry (omega arith)))
