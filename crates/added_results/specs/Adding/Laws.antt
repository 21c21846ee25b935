-- What holds of results added to tables.
-- Assumes nothing.
use Rattle.std.specs.Prelude.{ℕ, suc, ◌+◌, ◌*◌, ◌^◌, ◌≤◌, ◌<◌, max, ◌≡◌, refl, List, [], ◌∷◌, ◌++◌, length, get_or, take, drop}
use Rattle.std.proofs.Common.{ap, ap₂, sym, ◌∙◌, subst, subst₂, append-nil, add-zero, arith, add-one, length-append, take-append-drop, take-suc, take_all, length-take-le}
use Rattle.std.proofs.Math.Nat.{max-eq_left, max-eq_right, max-le, le-max_right}
use Rattle.automata.specs.Automaton.{Automaton, Entry, Move}
use Rattle.automata.specs.Derivation.{Result}
use Rattle.automata.specs.Saturation.{entry_number, with_entry, add, add_all}
use Rattle.words.specs.Lists.Laws.{get_elem?_some}
use Rattle.automata.specs.Facts.Laws.{entries_grow}
use Rattle.rounds.specs.Added.{add_all_extends}
use Rattle.rounds.specs.Entries.{EntryPlaced, placed}
use Rattle.services.specs.Memory.{entry_width}
use Rattle.tables.specs.declared.Table.{Table}
use Rattle.tables.specs.Rows.{row_at, rows_in, put_row}
use Rattle.tables.specs.Rows.Laws.{length_rows_in, get_or_rows_in, length_put_row, put_more}
use Rattle.tables.specs.Layouts.{entry_row, counted_row, move_row, edge_row, result_row}
use Rattle.tables.specs.Held.{automaton_of}
use Rattle.tables.specs.Counts.{raised, CountsAre, CountsStand}
use Rattle.tables.specs.Counts.Laws.{length_raised, raised_entries, filled_raised, counts_raised, count_bound, counts_new}
use Rattle.tables.specs.Laws.Filled.{Filled, filled_put}
use Rattle.added_results.specs.Adding.{Entered, Growing, StatesExist, Grows, Over, CountsBefore}
use Rattle.added_results.specs.Adding.Exist.{add_all_exist, none_past}

-- ---- one entry

-- an entry is there, and then its number is below the length, or it is not, and then its number is the length
record Known (p S : ℕ) (es : List Entry) (i : ℕ) : Type 0 where
  within : i ≤ length es
  old : i < length es → with_entry p S es ≡ es
  new : length es ≤ i → with_entry p S es ≡ es ++ (record { control = p; S = S } ∷ [])

known : (p S : ℕ) (es : List Entry) (i : ℕ) → i ≡ entry_number p S es → Known p S es i
known p S es i q = go (placed p S es)
  where
    go : EntryPlaced p S es → Known p S es i
    go (EntryPlaced.new n w k) = let e : i ≡ length es = q ∙ k in record { within = omega arith; old = λ h. absurd (omega arith); new = λ h. w }
    go (EntryPlaced.old w k) =
        let b : entry_number p S es < length es = (get_elem?_some es (entry_number p S es) k).0 in
        record { within = omega arith; old = λ h. w; new = λ h. absurd (omega arith) }

module _ (t : List ℕ) (n most : ℕ) (e : Entry) (i : ℕ) (q : i ≡ entry_number e.control e.S (rows_in entry_row n t)) (b : n ≤ most) where
  pub entered_there : i < n → Entered t n most e i t
  entered_there h =
      let len : length (rows_in entry_row n t) ≡ n = length_rows_in entry_row n t in
      let k : Known e.control e.S (rows_in entry_row n t) i = known e.control e.S (rows_in entry_row n t) i q in
      let m : max n (i + 1) ≡ n = max-eq_left (omega arith) in
      record {
        number = q;
        rows = λ l. ap (λ (j : ℕ). rows_in entry_row j t) m ∙ sym (k.old (omega arith));
        within = omega arith;
        over = λ l. absurd (omega arith);
        filled = λ l f. subst (λ (j : ℕ). Filled entry_row j t) (sym m) f;
        counts = λ l J ms none c. subst (λ (j : ℕ). CountsAre J j t ms) (sym m) c;
        kept = λ l. refl;
        long = refl;
      }

  pub entered_over : n ≤ i → most ≤ i → Entered t n most e i t
  entered_over h l =
      let len : length (rows_in entry_row n t) ≡ n = length_rows_in entry_row n t in
      let k : Known e.control e.S (rows_in entry_row n t) i = known e.control e.S (rows_in entry_row n t) i q in
      let w : i ≤ length (rows_in entry_row n t) = k.within in
      let more : length (rows_in entry_row n t ++ (e ∷ [])) ≡ length (rows_in entry_row n t) + 1 = length-append (rows_in entry_row n t) (e ∷ []) in
      let all : length (with_entry e.control e.S (rows_in entry_row n t)) ≡ length (rows_in entry_row n t ++ (e ∷ [])) = ap length (k.new (omega arith)) in
      record {
        number = q;
        rows = λ z. absurd (omega arith);
        within = omega arith;
        over = λ z. omega arith;
        filled = λ z f. absurd (omega arith);
        counts = λ z J ms none c. absurd (omega arith);
        kept = λ z. refl;
        long = refl;
      }

  pub entered_new : (t' : List ℕ) → n ≤ i → i < most → most * entry_width ≤ length t → t' ≡ put_row entry_row t i e → Entered t n most e i t'
  entered_new t' h l r f =
      let len : length (rows_in entry_row n t) ≡ n = length_rows_in entry_row n t in
      let k : Known e.control e.S (rows_in entry_row n t) i = known e.control e.S (rows_in entry_row n t) i q in
      let w : i ≤ length (rows_in entry_row n t) = k.within in
      let at : i ≡ n = omega arith in
      let m : max n (i + 1) ≡ n + 1 = max-eq_right (omega arith) ∙ ap (λ (j : ℕ). j + 1) at in
      let put : t' ≡ put_row entry_row t n e = f ∙ ap (λ (j : ℕ). put_row entry_row t j e) at in
      record {
        number = q;
        rows = λ z. ap₂ (rows_in entry_row) m put ∙ put_more entry_row n t e (omega arith) ∙ sym (k.new (omega arith));
        within = omega arith;
        over = λ z. absurd (omega arith);
        filled = λ z g. rw (m, put) (filled_put entry_row n t e g);
        counts = λ z J ms none c. subst₂ (λ (j : ℕ) (u : List ℕ). CountsAre J j u ms) (sym m) (sym put) (counts_new J n t ms c e (omega arith) none);
        kept = λ z. absurd (omega arith);
        long = ap length f ∙ length_put_row entry_row t i e;
      }

-- ---- one result

-- the table with one move more, and so many entries
abbrev pub grown_to : Table → ℕ → Table
grown_to z n = record { inner1 = z.inner1; final1 = z.final1; final2 = z.final2; edges = z.edges; entries = n; moves = z.moves + 1 }

-- the last move
abbrev pub last_move : Table → ℕ → Result → Move
last_move z i x = record { state = z.inner1 + i; symbol = x.symbol; order = x.order; B = x.B; R = x.R }

module _ (z : Table) (most : ℕ) (entries moves : List ℕ) (x : Result) (i : ℕ) (entries' : List ℕ)
    (h : Entered entries z.entries most (record { control = x.control; S = x.S }) i entries') (few : z.entries ≤ most) where
  pub added_over : most ≤ i → Over z most entries moves (x ∷ []) entries' moves
  unfolding add_all add
  added_over l =
      record {
        over = λ inner. h.over l;
        entries_long = h.long;
        moves_long = refl;
      }

  pub counts_over : most ≤ i → CountsStand z entries moves → CountsStand z entries' moves
  counts_over l c = subst (λ (t : List ℕ). CountsStand z t moves) (sym (h.kept l)) c

  -- there is room for the row of the entry
  pub row_there : i < most → most * entry_width ≤ length entries → i * entry_width + entry_width ≤ length entries'
  row_there l lent = let long : length entries' ≡ length entries = h.long in omega arith

  -- the entries with this one
  counts_entered : i < most → StatesExist (automaton_of z [] entries moves) → CountsStand z entries moves
      → CountsAre z.inner1 (max z.entries (i + 1)) entries' (rows_in move_row z.moves moves)
  counts_entered l s c =
      let len : length (rows_in entry_row z.entries entries) ≡ z.entries = length_rows_in entry_row z.entries entries in
      h.counts l z.inner1 (rows_in move_row z.moves moves) (none_past (automaton_of z [] entries moves) (z.inner1 + z.entries) s (omega arith)) c

  -- and each of their counts can be raised
  pub count_small : i < most → StatesExist (automaton_of z [] entries moves) → CountsStand z entries moves → z.moves + 1 < 2 ^ 64
      → (k : ℕ) → k < max z.entries (i + 1) → (row_at counted_row entries' k).moves + 1 < 2 ^ 64
  count_small l s c few k b =
      let len : length (rows_in move_row z.moves moves) ≡ z.moves = length_rows_in move_row z.moves moves in
      let bound : (row_at counted_row entries' k).moves ≤ length (rows_in move_row z.moves moves) =
      count_bound z.inner1 (max z.entries (i + 1)) entries' (rows_in move_row z.moves moves) (counts_entered l s c) k b in
      omega arith

  module _ (n : ℕ) (entries'' moves' : List ℕ) (l : i < most) (en : n ≡ max z.entries (i + 1)) (lent : most * entry_width ≤ length entries)
      (er : entries'' ≡ raised entries' i) (room : z.moves * 5 + 5 ≤ length moves) (em : moves' ≡ put_row move_row moves z.moves (last_move z i x)) where
    moves_more : rows_in move_row (z.moves + 1) moves' ≡ rows_in move_row z.moves moves ++ (last_move z i x ∷ [])
    moves_more = ap (rows_in move_row (z.moves + 1)) em ∙ put_more move_row z.moves moves (last_move z i x) room

    moves_are : rows_in move_row (z.moves + 1) moves'
        ≡ rows_in move_row z.moves moves ++ (last_move z (entry_number x.control x.S (rows_in entry_row z.entries entries)) x ∷ [])
    moves_are =
        moves_more
        ∙ ap (λ (j : ℕ). rows_in move_row z.moves moves ++ (last_move z j x ∷ [])) h.number

    entries_are : rows_in entry_row n entries'' ≡ with_entry x.control x.S (rows_in entry_row z.entries entries)
    entries_are =
        ap (rows_in entry_row n) er
        ∙ raised_entries entries' i (row_there l lent) n
        ∙ ap (λ (j : ℕ). rows_in entry_row j entries') en
        ∙ h.rows l

    entries_long : length entries'' ≡ length entries
    entries_long = ap length er ∙ length_raised entries' i (row_there l lent) ∙ h.long

    named : i < n
    named = let above : i + 1 ≤ max z.entries (i + 1) = le-max_right z.entries (i + 1) in omega arith

    -- one count is raised
    pub counts_one : StatesExist (automaton_of z [] entries moves) → CountsStand z entries moves → CountsStand (grown_to z n) entries'' moves'
    counts_one s c =
        subst₂ (λ (t : List ℕ) (ms : List Move). CountsAre z.inner1 n t ms) (sym er) (sym moves_more)
        (counts_raised entries' i (row_there l lent) z.inner1 n (rows_in move_row z.moves moves) (last_move z i x)
        (subst (λ (j : ℕ). CountsAre z.inner1 j entries' (rows_in move_row z.moves moves)) (sym en) (counts_entered l s c)) refl)

    grown : (inner : List ℕ) → automaton_of (grown_to z n) inner entries'' moves' ≡ add_all (automaton_of z inner entries moves) (x ∷ [])
    unfolding add_all add
    grown inner = λ k.
        record {
          J = z.inner1;
          final1 = z.final1;
          final2 = z.final2;
          inner = rows_in edge_row z.edges inner;
          entries = entries_are k;
          moves = moves_are k;
        }

    pub added_one : Grows z entries moves (x ∷ []) (grown_to z n) entries'' moves' × (n ≤ most)
    added_one =
        let w : i ≤ z.entries = h.within in
        let b : max z.entries (i + 1) ≤ most = max-le few (omega arith) in (
          record {
            same_states = refl;
            same_edges = refl;
            table_is = grown;
            moves_more = refl;
            entries_filled = λ f.
                subst (Filled entry_row n) (sym er)
                (filled_raised entries' i (row_there l lent) n named (subst (λ (j : ℕ). Filled entry_row j entries') (sym en) (h.filled l f)));
            moves_filled = λ f. subst (Filled move_row (z.moves + 1)) (sym em) (filled_put move_row z.moves moves (last_move z i x) f);
            entries_long = entries_long;
            moves_long = ap length em ∙ length_put_row move_row moves z.moves (last_move z i x);
          },
          subst (λ (j : ℕ). j ≤ most) (sym en) b,
        )

-- ---- one after another

pub add_all_append : (A : Automaton) (xs ys : List Result) → add_all A (xs ++ ys) ≡ add_all (add_all A xs) ys
unfolding add_all
add_all_append A [] ys = refl
add_all_append A (x ∷ xs) ys = add_all_append (add A x) xs ys

pub grows_none : (z : Table) (entries moves : List ℕ) → Grows z entries moves [] z entries moves
unfolding add_all
grows_none z entries moves =
    record {
      same_states = refl;
      same_edges = refl;
      table_is = λ inner. refl;
      moves_more = sym (add-zero z.moves);
      entries_filled = λ f. f;
      moves_filled = λ f. f;
      entries_long = refl;
      moves_long = refl;
    }

grows_then : {z z₁ z₂ : Table} {e m e₁ m₁ e₂ m₂ : List ℕ} {xs ys : List Result}
    → Grows z e m xs z₁ e₁ m₁ → Grows z₁ e₁ m₁ ys z₂ e₂ m₂ → Grows z e m (xs ++ ys) z₂ e₂ m₂
grows_then {z} {z₁} {z₂} {e} {m} {xs = xs} {ys = ys} g h =
    let a : z₁.moves ≡ z.moves + length xs = g.moves_more in
    let b : z₂.moves ≡ z₁.moves + length ys = h.moves_more in
    let l : length (xs ++ ys) ≡ length xs + length ys = length-append xs ys in
    record {
      same_states = h.same_states ∙ g.same_states;
      same_edges = h.same_edges ∙ g.same_edges;
      table_is = λ inner. h.table_is inner ∙ ap (λ (A : Automaton). add_all A ys) (g.table_is inner) ∙ sym (add_all_append (automaton_of z inner e m) xs ys);
      moves_more = omega arith;
      entries_filled = λ f. h.entries_filled (g.entries_filled f);
      moves_filled = λ f. h.moves_filled (g.moves_filled f);
      entries_long = h.entries_long ∙ g.entries_long;
      moves_long = h.moves_long ∙ g.moves_long;
    }

-- where there is no room for the entry of one result, nothing was added
pub counts_none : (z : Table) (most : ℕ) (entries moves : List ℕ) (x : Result) (entries' : List ℕ) → entries' ≡ entries → z.entries ≤ most
    → Over z most entries moves (x ∷ []) entries' moves → CountsStand z entries' moves → CountsBefore z most entries moves (x ∷ []) entries' moves
counts_none z most entries moves x entries' k few o c =
    record {
      table = z;
      added = 0;
      fewer = omega arith;
      grows = subst (λ (t : List ℕ). Grows z entries moves [] z t moves) (sym k) (grows_none z entries moves);
      few = few;
      over = o;
      counted = c;
    }

-- the entries of a table with results added are no fewer
pub entries_kept : (A : Automaton) (xs : List Result) → length A.entries ≤ length (add_all A xs).entries
entries_kept A xs = entries_grow (add_all_extends A xs)

module _ (z : Table) (most : ℕ) (entries moves : List ℕ) (l : List Result) where
  -- The first i results were added.
  pub record AddedUpTo (i : ℕ) (z' : Table) (entries' moves' : List ℕ) : Type 0 where
    pub within : i ≤ length l
    pub grows : Grows z entries moves (take i l) z' entries' moves'
    pub few : z'.entries ≤ most

  pub up_to_none : z.entries ≤ most → AddedUpTo 0 z entries moves
  up_to_none h = record { within = omega arith; grows = grows_none z entries moves; few = h }

  module _ (i : ℕ) (z₁ : Table) (e₁ m₁ : List ℕ) (h : AddedUpTo i z₁ e₁ m₁) (x d : Result) (b : i < length l) (is : x ≡ get_or l i d)
      (e₂ m₂ : List ℕ) where
    next_is : take i l ++ (x ∷ []) ≡ take (suc i) l
    next_is = ap (λ (y : Result). take i l ++ (y ∷ [])) is ∙ sym (take-suc l i d b)

    pub up_to_more : (z₂ : Table) → Grows z₁ e₁ m₁ (x ∷ []) z₂ e₂ m₂ × (z₂.entries ≤ most) → AddedUpTo (i + 1) z₂ e₂ m₂
    up_to_more z₂ a =
        record {
          within = omega arith;
          grows = subst (λ (k : List Result). Grows z entries moves k z₂ e₂ m₂) (next_is ∙ ap (λ (k : ℕ). take k l) (sym (add-one i))) (grows_then h.grows a.0);
          few = a.1;
        }

    -- the next result added
    next_added : (inner : List ℕ) → add_all (automaton_of z inner entries moves) (take (suc i) l) ≡ add_all (automaton_of z₁ inner e₁ m₁) (x ∷ [])
    next_added inner =
        ap (add_all (automaton_of z inner entries moves)) (sym next_is)
        ∙ add_all_append (automaton_of z inner entries moves) (take i l) (x ∷ [])
        ∙ ap (λ (A : Automaton). add_all A (x ∷ [])) (sym (h.grows.table_is inner))

    -- there is no room for it: those before it were added
    pub up_to_counts : Over z₁ most e₁ m₁ (x ∷ []) e₂ m₂ → CountsBefore z₁ most e₁ m₁ (x ∷ []) e₂ m₂ → CountsBefore z most entries moves l e₂ m₂
    up_to_counts a k =
        let none : k.added ≡ 0 = omega (arith, k.fewer) in
        let rest : Grows z₁ e₁ m₁ [] k.table e₂ m₂ = subst (λ (j : ℕ). Grows z₁ e₁ m₁ (take j (x ∷ [])) k.table e₂ m₂) none k.grows in
        record {
          table = k.table;
          added = i;
          fewer = b;
          grows = subst (λ (r : List Result). Grows z entries moves r k.table e₂ m₂) (append-nil (take i l)) (grows_then h.grows rest);
          few = k.few;
          over =
              record {
                over = λ inner.
                    subst (λ (A : Automaton). most < length A.entries)
                    (sym (ap (λ (j : ℕ). add_all (automaton_of z inner entries moves) (take j l)) (add-one i) ∙ next_added inner)) (a.over inner);
                entries_long = a.entries_long ∙ h.grows.entries_long;
                moves_long = a.moves_long ∙ h.grows.moves_long;
              };
          counted = k.counted;
        }

    pub up_to_over : Over z₁ most e₁ m₁ (x ∷ []) e₂ m₂ → Over z most entries moves l e₂ m₂
    up_to_over a =
        record {
          over = λ inner. more inner (a.over inner);
          entries_long = a.entries_long ∙ h.grows.entries_long;
          moves_long = a.moves_long ∙ h.grows.moves_long;
        }
      where
        whole : (inner : List ℕ) → add_all (automaton_of z inner entries moves) l ≡ add_all (add_all (automaton_of z₁ inner e₁ m₁) (x ∷ [])) (drop (suc i) l)
        whole inner =
            ap (add_all (automaton_of z inner entries moves)) (sym (take-append-drop (suc i) l))
            ∙ add_all_append (automaton_of z inner entries moves) (take (suc i) l) (drop (suc i) l)
            ∙ ap (λ (A : Automaton). add_all A (drop (suc i) l)) (next_added inner)

        more : (inner : List ℕ) → most < length (add_all (automaton_of z₁ inner e₁ m₁) (x ∷ [])).entries → most < length (add_all (automaton_of z inner entries moves) l).entries
        more inner o =
            let k : length (add_all (automaton_of z₁ inner e₁ m₁) (x ∷ [])).entries ≤ length (add_all (add_all (automaton_of z₁ inner e₁ m₁) (x ∷ [])) (drop (suc i) l)).entries =
            entries_kept (add_all (automaton_of z₁ inner e₁ m₁) (x ∷ [])) (drop (suc i) l) in
            let w : length (add_all (automaton_of z inner entries moves) l).entries ≡ length (add_all (add_all (automaton_of z₁ inner e₁ m₁) (x ∷ [])) (drop (suc i) l)).entries =
            ap (λ (A : Automaton). length A.entries) (whole inner) in
            omega arith

  pub up_to_all : (i : ℕ) (z₁ : Table) (e₁ m₁ : List ℕ) → AddedUpTo i z₁ e₁ m₁ → length l ≤ i → Grows z entries moves l z₁ e₁ m₁ × (z₁.entries ≤ most)
  up_to_all i z₁ e₁ m₁ h b = (subst (λ (k : List Result). Grows z entries moves k z₁ e₁ m₁) (take_all i l b) h.grows, h.few)

-- ---- the results in the rows of a table

module _ (z : Table) (most : ℕ) (entries moves : List ℕ) (n : ℕ) (pending : List ℕ) (i : ℕ) (z₁ : Table) (e₁ m₁ : List ℕ)
    (h : AddedUpTo z most entries moves (rows_in result_row n pending) i z₁ e₁ m₁) where
  pub still_growing : Growing z most entries → Growing z₁ most e₁
  still_growing g =
      let a : most * entry_width ≤ length entries = g.entries_lent in
      let b : length e₁ ≡ length entries = h.grows.entries_long in
      let c : z.inner1 + most ≤ 64 = g.states_few in
      let d : z₁.inner1 ≡ z.inner1 = h.grows.same_states in
      record { entries_few = h.few; entries_lent = omega arith; states_few = omega arith }

  pub still_exist : StatesExist (automaton_of z [] entries moves) → StatesExist (automaton_of z₁ [] e₁ m₁)
  still_exist s =
      subst StatesExist (sym (h.grows.table_is [])) (add_all_exist (automaton_of z [] entries moves) (take i (rows_in result_row n pending)) s)

  pub still_room : i < n → (z.moves + n) * 5 ≤ length moves → z₁.moves * 5 + 5 ≤ length m₁
  still_room b g =
      let len : length (rows_in result_row n pending) ≡ n = length_rows_in result_row n pending in
      let a : z₁.moves ≡ z.moves + length (take i (rows_in result_row n pending)) = h.grows.moves_more in
      let c : length (take i (rows_in result_row n pending)) ≡ i = length-take-le i (rows_in result_row n pending) (omega arith) in
      let d : length m₁ ≡ length moves = h.grows.moves_long in
      omega arith

  module _ (x : Result) (b : i < n) (is : x ≡ row_at result_row pending i) (e₂ m₂ : List ℕ) where
    no_result : Result
    no_result = record { control = 0; S = 0; symbol = 0; order = 0; B = 0; R = 0 }

    at_row : x ≡ get_or (rows_in result_row n pending) i no_result
    at_row = is ∙ sym (get_or_rows_in result_row n pending i no_result b)

    pub rows_more : (z₂ : Table) → Grows z₁ e₁ m₁ (x ∷ []) z₂ e₂ m₂ × (z₂.entries ≤ most) → AddedUpTo z most entries moves (rows_in result_row n pending) (i + 1) z₂ e₂ m₂
    rows_more z₂ a =
        let len : length (rows_in result_row n pending) ≡ n = length_rows_in result_row n pending in
        up_to_more z most entries moves (rows_in result_row n pending) i z₁ e₁ m₁ h x no_result (omega arith) at_row e₂ m₂ z₂ a

    pub rows_over : Over z₁ most e₁ m₁ (x ∷ []) e₂ m₂ → Over z most entries moves (rows_in result_row n pending) e₂ m₂
    rows_over a =
        let len : length (rows_in result_row n pending) ≡ n = length_rows_in result_row n pending in
        up_to_over z most entries moves (rows_in result_row n pending) i z₁ e₁ m₁ h x no_result (omega arith) at_row e₂ m₂ a

    pub rows_counts : Over z₁ most e₁ m₁ (x ∷ []) e₂ m₂ → CountsBefore z₁ most e₁ m₁ (x ∷ []) e₂ m₂ → CountsBefore z most entries moves (rows_in result_row n pending) e₂ m₂
    rows_counts a k =
        let len : length (rows_in result_row n pending) ≡ n = length_rows_in result_row n pending in
        up_to_counts z most entries moves (rows_in result_row n pending) i z₁ e₁ m₁ h x no_result (omega arith) at_row e₂ m₂ a k

  pub rows_all : n ≤ i → Grows z entries moves (rows_in result_row n pending) z₁ e₁ m₁ × (z₁.entries ≤ most)
  rows_all b =
      let len : length (rows_in result_row n pending) ≡ n = length_rows_in result_row n pending in
      up_to_all z most entries moves (rows_in result_row n pending) i z₁ e₁ m₁ h (omega arith)
