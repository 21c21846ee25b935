-- The loops over the edges and moves of a case, turn by turn.
-- Assumes nothing.
use Rattle.std.specs.Prelude.{ℕ, suc, ◌+◌, ◌*◌, ◌-◌, ◌≤◌, ◌<◌, Bool, ◌≡◌, refl, List, [], ◌∷◌, ◌++◌, map, length, drop, eqb, ltb}
use Rattle.std.proofs.Common.{ap, ap₂, sym, ◌∙◌, length-append, lt-ltb, le-ltb, eq-eqb, ne_eqb, drop-drop, zero-add, arith}
use Rattle.std.proofs.lemmas.List.{map-append, length-map}
use Rattle.words.specs.Lists.{only, places_from}
use Rattle.words.specs.Lists.Laws.{only_append, places_from_append}
use Rattle.words.specs.Sets.{single, join, set_of}
use Rattle.words.proofs.Sets.Laws.{join_empty_right}
use Rattle.words.proofs.Sets.Listed.{set_of_append}
use Rattle.words.specs.Laws.Tests.{by_test}
use Rattle.words.specs.Order.{insert, sorted}
use Rattle.automata.specs.Automaton.{Move, Edge, Entry, choice_key}
use Rattle.files.specs.Bytes.{records}
use Rattle.files.specs.Case.{Head, EdgeBytes, edge_bytes, entries_of, final_entries, inner_edges, move_of}
use Rattle.files.specs.Bytes.Laws.{length_records}
use Rattle.bytes_in.specs.Records.{record_at}
use Rattle.bytes_in.specs.Records.Laws.{records_split, from_last, from_first, from_cons, map_more}
use Rattle.tables.specs.Rows.{first_of, rows_in, put_row}
use Rattle.tables.specs.Rows.Laws.{length_rows_in}
use Rattle.tables.specs.Layouts.{edge_row, entry_row, move_row}
use Rattle.tables.specs.Insertion.{Inserted}
use Rattle.case_tables.specs.WrittenRows.{written}
use Rattle.tables.specs.Laws.Exact.{edge_exact}
use Rattle.case_tables.specs.WrittenRows.Laws.{written_append, written_more, written_whole}
use Rattle.case_file.specs.Laws.Bodies.{entries_append}
use Rattle.case_tables.specs.Decoded.{inner_edge, with_inner, MoreInner, edges_from, InnerFrom}

pub inner_none : (h : Head) → inner_edges h [] ≡ []
unfolding inner_edges only sorted
inner_none h = refl

pub inner_cons : (h : Head) (x : EdgeBytes) (xs : List EdgeBytes) → inner_edges h (x ∷ xs) ≡ with_inner h x (inner_edges h xs)
unfolding inner_edges with_inner only sorted
inner_cons h x xs =
    by_test (ltb x.state h.P)
    (λ e. rw (with_inner, only, e))
    (λ e. rw (with_inner, only, e))

pub with_entry_lem : (h : Head) (x : EdgeBytes) (l : List Edge) → x.state < h.P → with_inner h x l ≡ l
unfolding with_inner
with_entry_lem h x l e = rw (with_inner, lt-ltb _ _ e)

pub with_inner_lem : (h : Head) (x : EdgeBytes) (l : List Edge) → h.P ≤ x.state → with_inner h x l ≡ insert choice_key (inner_edge x) l
unfolding with_inner
with_inner_lem h x l e = rw (with_inner, le-ltb _ _ e)

pub more_entry : (h : Head) (x : EdgeBytes) (t : List ℕ) (n : ℕ) → x.state < h.P → MoreInner h x t t n n
more_entry h x t n e = record { rows = sym (with_entry_lem h x _ e); behind = refl; few = omega arith; kept = omega arith }

pub more_inner : (h : Head) (x : EdgeBytes) (t t' : List ℕ) (n r : ℕ) → h.P ≤ x.state → Inserted edge_row t t' n r (inner_edge x)
    → MoreInner h x t t' n r
more_inner h x t t' n r e i = record { rows = i.rows ∙ sym (with_inner_lem h x _ e); behind = i.behind; few = i.few; kept = i.kept }

-- ---- entries

entry_cons : (h : Head) (x : EdgeBytes) (xs : List EdgeBytes) → x.state < h.P
    → entries_of h (x ∷ xs) ≡ record { control = x.state; S = x.S } ∷ entries_of h xs
unfolding entries_of only
entry_cons h x xs e = rw (only, lt-ltb _ _ e)

-- an entry among n edges is one more than those before it
pub entries_within : (h : Head) (b : List ℕ) (n i : ℕ) → i < n → (edge_bytes (record_at 4 i b)).state < h.P
    → length (entries_of h (map edge_bytes (records i 4 b))) + 1 ≤ length (entries_of h (map edge_bytes (records n 4 b)))
entries_within h b n i l e =
    let x : EdgeBytes = edge_bytes (record_at 4 i b) in
    let xs : List EdgeBytes = map edge_bytes (records i 4 b) in
    let ys : List EdgeBytes = map edge_bytes (records (n - suc i) 4 (drop 4 (drop (i * 4) b))) in
    let split : map edge_bytes (records n 4 b) ≡ xs ++ (x ∷ ys) = ap (map edge_bytes) (records_split n 4 i b l) ∙ map-append edge_bytes (records i 4 b) _ in
    let all : length (entries_of h (map edge_bytes (records n 4 b))) ≡ length (entries_of h xs) + suc (length (entries_of h ys)) =
    ap (λ (z : List EdgeBytes). length (entries_of h z)) split
    ∙ simp (entries_append, entry_cons h x ys e, length-append) in
    omega arith

-- ---- final entries

pub final_none : (h : Head) (r : ℕ) → set_of (final_entries h r []) ≡ 0
unfolding final_entries only places_from set_of
final_none h r = refl

final_append : (h : Head) (r : ℕ) (xs ys : List EdgeBytes)
    → final_entries h r (xs ++ ys) ≡ final_entries h r xs ++ final_entries h (r + length (entries_of h xs)) ys
unfolding final_entries entries_of
final_append h r xs ys =
    let test : EdgeBytes → Bool = λ x. ltb x.state h.P in
    let final : EdgeBytes → Bool = λ x. eqb x.first 254 in
    let entry : EdgeBytes → Entry = λ x. record { control = x.state; S = x.S } in
    ap (places_from r final) (only_append test xs ys)
    ∙ places_from_append r final (only test xs) (only test ys)
    ∙ ap (λ (n : ℕ). places_from r final (only test xs) ++ places_from (r + n) final (only test ys)) (sym (length-map (only test xs) entry))

pub final_yes : (h : Head) (r : ℕ) (x : EdgeBytes) → x.state < h.P → x.first ≡ 254 → single r ≡ set_of (final_entries h r (x ∷ []))
unfolding final_entries only places_from set_of
final_yes h r x l e = sym (rw (only, lt-ltb _ _ l, places_from, eq-eqb _ _ e) (join_empty_right (single r)))

pub final_other : (h : Head) (r : ℕ) (x : EdgeBytes) → (x.first ≡ 254 → ⊥) → 0 ≡ set_of (final_entries h r (x ∷ []))
unfolding final_entries only places_from set_of
final_other h r x n = by_test (ltb x.state h.P)
    (λ t. rw (only, t, places_from, ne_eqb _ _ n))
    (λ t. rw (only, t))

pub final_inner : (h : Head) (r : ℕ) (x : EdgeBytes) → h.P ≤ x.state → 0 ≡ set_of (final_entries h r (x ∷ []))
unfolding final_entries only places_from set_of
final_inner h r x l = rw (only, le-ltb _ _ l)

-- one edge more
pub final_more : (h : Head) (b : List ℕ) (j i r : ℕ) (x : EdgeBytes) {s one more : ℕ} → s ≡ set_of (final_entries h j (map edge_bytes (records i 4 b)))
    → r ≡ j + length (entries_of h (map edge_bytes (records i 4 b))) → x ≡ edge_bytes (record_at 4 i b) → one ≡ set_of (final_entries h r (x ∷ []))
    → more ≡ join s one → more ≡ set_of (final_entries h j (map edge_bytes (records (i + 1) 4 b)))
final_more h b j i r x e f g k m =
    let xs : List EdgeBytes = map edge_bytes (records i 4 b) in
    m
    ∙ ap₂ join e (k ∙ ap₂ (λ (n : ℕ) (y : EdgeBytes). set_of (final_entries h n (y ∷ []))) f g)
    ∙ sym (set_of_append (final_entries h j xs) (final_entries h (j + length (entries_of h xs)) (edge_bytes (record_at 4 i b) ∷ [])))
    ∙ ap set_of (sym (final_append h j xs (edge_bytes (record_at 4 i b) ∷ [])))
    ∙ ap (λ (ys : List EdgeBytes). set_of (final_entries h j ys)) (sym (map_more edge_bytes 4 b i))

-- ---- turns of the loops

pub moves_more : (b t₀ t t' : List ℕ) (i : ℕ) (m : Move) → t ≡ written move_row t₀ 0 (map move_of (records i 19 b))
    → m ≡ move_of (record_at 19 i b) → t' ≡ put_row move_row t i m → t' ≡ written move_row t₀ 0 (map move_of (records (i + 1) 19 b))
moves_more b t₀ t t' i m e f g =
    let n : length (map move_of (records i 19 b)) ≡ i = length-map (records i 19 b) move_of ∙ length_records i 19 b in
    g
    ∙ ap₂ (λ (x : List ℕ) (y : Move). put_row move_row x i y) e f
    ∙ ap (λ (j : ℕ). put_row move_row (written move_row t₀ 0 (map move_of (records i 19 b))) j (move_of (record_at 19 i b))) (sym n)
    ∙ sym (written_more move_row t₀ (map move_of (records i 19 b)) (move_of (record_at 19 i b)))
    ∙ ap (written move_row t₀ 0) (sym (map_more move_of 19 b i))

pub entries_step : (h : Head) (b t₀ t t' : List ℕ) (i k : ℕ) (x : EdgeBytes) → t ≡ written entry_row t₀ 0 (entries_of h (map edge_bytes (records i 4 b)))
    → k ≡ length (entries_of h (map edge_bytes (records i 4 b)))
    → x ≡ edge_bytes (record_at 4 i b)
    → t' ≡ written entry_row t k (entries_of h (x ∷ []))
    → t' ≡ written entry_row t₀ 0 (entries_of h (map edge_bytes (records (i + 1) 4 b)))
entries_step h b t₀ t t' i k x e f g q =
    let l : List Entry = entries_of h (map edge_bytes (records i 4 b)) in
    q
    ∙ ap₂ (λ (z : List ℕ) (j : ℕ). written entry_row z j (entries_of h (x ∷ []))) e (f ∙ sym (zero-add (length l)))
    ∙ sym (written_append entry_row t₀ 0 l (entries_of h (x ∷ [])))
    ∙ ap (written entry_row t₀ 0)
    (sym (entries_append h (map edge_bytes (records i 4 b)) (x ∷ []))
    ∙ ap (λ (y : EdgeBytes). entries_of h (map edge_bytes (records i 4 b) ++ (y ∷ []))) g
    ∙ ap (entries_of h) (sym (map_more edge_bytes 4 b i)))

drop_later : (m n : ℕ) (x y : List ℕ) → m ≤ n → drop m x ≡ drop m y → drop n x ≡ drop n y
drop_later m n x y h e =
    let s : n ≡ m + (n - m) = omega arith in
    ap (λ (k : ℕ). drop k x) s
    ∙ sym (drop-drop (n - m) m x)
    ∙ ap (drop (n - m)) e
    ∙ drop-drop (n - m) m y
    ∙ ap (λ (k : ℕ). drop k y) (sym s)

pub inner_last : (h : Head) (b t : List ℕ) (n : ℕ) → InnerFrom h b t t n n 0
unfolding rows_in first_of
inner_last h b t n =
    record { rows = sym (ap (λ (l : List (List ℕ)). inner_edges h (map edge_bytes l)) (from_last n 4 b) ∙ inner_none h); behind = refl; few = omega arith; long = refl }

pub inner_step : (h : Head) (b t₀ t t' : List ℕ) (n i k r : ℕ) (x : EdgeBytes) → InnerFrom h b t₀ t n i k → 0 < i
    → x ≡ edge_bytes (record_at 4 (i - 1) b) → MoreInner h x t t' k r → length t' ≡ length t → InnerFrom h b t₀ t' n (i - 1) r
inner_step h b t₀ t t' n i k r x p l e m len =
    let few : k + i ≤ n = p.few in
    let more : r ≤ k + 1 = m.few in
    let kept : k ≤ r = m.kept in
    let next : i ≡ i - 1 + 1 = omega arith in
    record {
      rows =
          m.rows
          ∙ ap₂ (with_inner h) e (p.rows ∙ ap (λ (j : ℕ). inner_edges h (edges_from b n j)) next)
          ∙ sym (inner_cons h (edge_bytes (record_at 4 (i - 1) b)) (edges_from b n (i - 1 + 1)))
          ∙ ap (λ (l : List (List ℕ)). inner_edges h (map edge_bytes l)) (sym (from_cons n 4 (i - 1) b (omega arith)));
      behind = m.behind ∙ drop_later (k * 3) (r * 3) t t₀ (omega arith) p.behind;
      few = omega arith;
      long = len ∙ p.long;
    }

pub inner_all : (h : Head) (b t₀ t : List ℕ) (n i k : ℕ) → InnerFrom h b t₀ t n i k → i ≤ 0 → n * 3 ≤ length t₀
    → (t ≡ written edge_row t₀ 0 (inner_edges h (map edge_bytes (records n 4 b))))
    × ((k ≡ length (inner_edges h (map edge_bytes (records n 4 b)))) × (k ≤ n))
inner_all h b t₀ t n i k p z l =
    let zero_left : i ≡ 0 = omega arith in
    let few : k + i ≤ n = p.few in
    let all : rows_in edge_row k t ≡ inner_edges h (map edge_bytes (records n 4 b)) =
    p.rows ∙ ap (λ (j : ℕ). inner_edges h (edges_from b n j)) zero_left ∙ ap (λ (l : List (List ℕ)). inner_edges h (map edge_bytes l)) (from_first n 4 b) in
    let count : k ≡ length (inner_edges h (map edge_bytes (records n 4 b))) = sym (length_rows_in edge_row k t) ∙ ap length all in (
      written_whole edge_row edge_exact t₀ t (inner_edges h (map edge_bytes (records n 4 b)))
          (omega arith)
          p.long
          (ap (λ (j : ℕ). rows_in edge_row j t) (sym count) ∙ all)
          (ap (λ (j : ℕ). drop (j * 3) t) (sym count) ∙ p.behind ∙ ap (λ (j : ℕ). drop (j * 3) t₀) count),
      (count, omega arith),
    )
