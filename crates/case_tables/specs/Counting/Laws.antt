-- A move more is counted with its entry, and with no other; what all moves leave is the entries with their numbers of moves.
-- Assumes nothing.
use Rattle.std.specs.Prelude.{ℕ, suc, ◌+◌, ◌-◌, ◌*◌, ◌^◌, ◌≤◌, ◌<◌, ◌≡◌, refl, List, [], ◌∷◌, ◌++◌, map, length, drop, leb, ltb}
use Rattle.std.proofs.Common.{ap, sym, ◌∙◌, subst, arith}
use Rattle.std.proofs.lemmas.List.{length-map}
use borrow.Author.Tests.{le-leb, leb-true, leb-false, lt-leb, lt-ltb, le-ltb, ltb-true, ltb-false}
use Rattle.words.specs.Lists.{only}
use Rattle.words.specs.Laws.Tests.{by_test}
use Rattle.automata.specs.Automaton.{Move, Entry}
use Rattle.files.specs.Bytes.{records}
use Rattle.files.specs.Bytes.Laws.{length_records}
use Rattle.files.specs.Case.{move_of}
use Rattle.services.specs.Memory.{entry_width, move_count, Counted, with_counts}
use Rattle.services.specs.Memory.Laws.{length_with_counts}
use Rattle.tables.specs.Rows.{row_at, rows_in, put_row}
use Rattle.tables.specs.Rows.Laws.{length_rows_in}
use Rattle.tables.specs.Layouts.{entry_row, counted_row}
use Rattle.tables.specs.Laws.Exact.{counted_exact}
use Rattle.tables.specs.Counts.{raised, CountsAre}
use Rattle.tables.specs.Counts.Laws.{length_raised, raised_entries, drop_raised, counts_raised, counts_passed, count_bound, counted_rows, rows_counts, new_row}
use Rattle.bytes_in.specs.Records.{record_at}
use Rattle.bytes_in.specs.Records.Laws.{map_more}
use Rattle.case_tables.specs.WrittenRows.{written}
use Rattle.case_tables.specs.WrittenRows.Laws.{rows_written, written_whole}
use Rattle.case_tables.specs.Counting.{move_counted}

-- ---- by what the code tests

module _ (J n r : ℕ) (t : List ℕ) where
  pub counted_inner : r < J → t ≡ move_counted J n r t
  unfolding move_counted
  counted_inner h = rw (move_counted, lt-leb J r h)

  pub counted_past : J ≤ r → n ≤ r - J → t ≡ move_counted J n r t
  unfolding move_counted
  counted_past h l = rw (move_counted, le-leb J r h, le-ltb (r - J) n l)

  pub counted_there : J ≤ r → r - J < n → raised t (r - J) ≡ move_counted J n r t
  unfolding move_counted
  counted_there h l = rw (move_counted, le-leb J r h, lt-ltb (r - J) n l)

-- ---- before the first move

new_written : (J : ℕ) (t : List ℕ) (k : ℕ) (es : List Entry) → written entry_row t k es ≡ written counted_row t k (with_counts [] J es)
unfolding written with_counts move_count only
new_written J t k [] = refl
new_written J t k (e ∷ es) =
    ap (λ (u : List ℕ). written entry_row u (suc k) es) (new_row t k e)
    ∙ new_written (suc J) (put_row counted_row t k (record { entry = e; moves = 0 })) (suc k) es

-- entries that are written have no moves yet
pub counts_written : (J : ℕ) (t : List ℕ) (es : List Entry) → length es * entry_width ≤ length t → CountsAre J (length es) (written entry_row t 0 es) []
counts_written J t es room =
    let l : List Counted = with_counts [] J es in
    let len : length l ≡ length es = length_with_counts [] J es in
    rows_counts J (length es) (written entry_row t 0 es) [] es refl
    (ap (rows_in counted_row (length es)) (new_written J t 0 es)
    ∙ ap (λ (n : ℕ). rows_in counted_row n (written counted_row t 0 l)) (sym len)
    ∙ rows_written counted_row t l (omega arith))

-- ---- move after move

-- The first n rows of t are the entries of those of t₀, each with the number of its moves among these, and the words behind them stand as in t₀.
pub record CountedSo (J n : ℕ) (t₀ t : List ℕ) (ms : List Move) : Type 0 where
  pub entries_same : rows_in entry_row n t ≡ rows_in entry_row n t₀
  pub behind : drop (n * entry_width) t ≡ drop (n * entry_width) t₀
  pub long : length t ≡ length t₀
  pub counts : CountsAre J n t ms

module _ (J n : ℕ) (t₀ : List ℕ) where
  pub so_none : CountsAre J n t₀ [] → CountedSo J n t₀ t₀ []
  so_none c = record { entries_same = refl; behind = refl; long = refl; counts = c }

  module _ (t t' : List ℕ) (ms : List Move) (m : Move) (room : n * entry_width ≤ length t₀) (h : CountedSo J n t₀ t ms) where
    so_raised : (k : ℕ) → k < n → m.state ≡ J + k → t' ≡ raised t k → CountedSo J n t₀ t' (ms ++ (m ∷ []))
    so_raised k l e f =
        let long : length t ≡ length t₀ = h.long in
        let row : k * entry_width + entry_width ≤ length t = omega arith in
        subst (λ (u : List ℕ). CountedSo J n t₀ u (ms ++ (m ∷ []))) (sym f)
        (record {
          entries_same = raised_entries t k row n ∙ h.entries_same;
          behind = drop_raised t k row n l ∙ h.behind;
          long = length_raised t k row ∙ long;
          counts = counts_raised t k row J n ms m h.counts e;
        })

    so_passed : ((i : ℕ) → i < n → m.state ≡ J + i → ⊥) → t' ≡ t → CountedSo J n t₀ t' (ms ++ (m ∷ []))
    so_passed apart f =
        subst (λ (u : List ℕ). CountedSo J n t₀ u (ms ++ (m ∷ []))) (sym f)
        (record { entries_same = h.entries_same; behind = h.behind; long = h.long; counts = counts_passed J n t ms h.counts m apart })

    pub so_more : t' ≡ move_counted J n m.state t → CountedSo J n t₀ t' (ms ++ (m ∷ []))
    so_more f =
        by_test (leb J m.state)
        (λ a.
        let j : J ≤ m.state = leb-true J m.state a in
        by_test (ltb (m.state - J) n)
        (λ b.
        let l : m.state - J < n = ltb-true (m.state - J) n b in
        so_raised (m.state - J) l (omega arith) (f ∙ sym (counted_there J n m.state t j l)))
        (λ b.
        let l : n ≤ m.state - J = ltb-false (m.state - J) n b in
        so_passed (λ i k e. omega arith) (f ∙ sym (counted_past J n m.state t j l))))
        (λ a.
        let j : m.state < J = leb-false J m.state a in
        so_passed (λ i k e. omega arith) (f ∙ sym (counted_inner J n m.state t j)))

  -- the moves of a body
  module _ (b t : List ℕ) (i : ℕ) (h : CountedSo J n t₀ t (map move_of (records i 19 b))) where
    pub so_step : (t' : List ℕ) (m : Move) → n * entry_width ≤ length t₀ → m ≡ move_of (record_at 19 i b) → t' ≡ move_counted J n m.state t
        → CountedSo J n t₀ t' (map move_of (records (i + 1) 19 b))
    so_step t' m room e f =
        subst (CountedSo J n t₀ t') (ap (λ (x : Move). map move_of (records i 19 b) ++ (x ∷ [])) e ∙ sym (map_more move_of 19 b i))
        (so_more t t' (map move_of (records i 19 b)) m room h f)

    -- the counts so far can be raised
    pub so_small : i ≤ 1024 → (k : ℕ) → k < n → (row_at counted_row t k).moves + 1 < 2 ^ 64
    so_small few k l =
        let len : length (map move_of (records i 19 b)) ≡ i = length-map (records i 19 b) move_of ∙ length_records i 19 b in
        let bound : (row_at counted_row t k).moves ≤ length (map move_of (records i 19 b)) = count_bound J n t (map move_of (records i 19 b)) h.counts k l in
        omega arith

  pub so_whole : (t : List ℕ) (ms : List Move) → n * entry_width ≤ length t₀ → CountedSo J n t₀ t ms → t ≡ written counted_row t₀ 0 (with_counts ms J (rows_in entry_row n t₀))
  so_whole t ms room h =
      let es : List Entry = rows_in entry_row n t₀ in
      let len : length (with_counts ms J es) ≡ n = length_with_counts ms J es ∙ length_rows_in entry_row n t₀ in
      written_whole counted_row counted_exact t₀ t (with_counts ms J es) (rw len room) h.long
      (rw len (counted_rows J n t ms es h.entries_same h.counts)) (rw len h.behind)
