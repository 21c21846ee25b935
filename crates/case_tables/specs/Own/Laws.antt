-- What the three loops write is the case's own automaton.
-- Assumes nothing.
use Rattle.std.specs.Prelude.{ℕ, ◌+◌, ◌*◌, ◌≤◌, ◌≡◌, List, [], map, length, drop}
use Rattle.std.proofs.Common.{ap, ap₂, ◌∙◌, subst₂, arith}
use Rattle.std.proofs.Math.Path.{sym}
use Rattle.std.proofs.lemmas.List.{length-map}
use Rattle.words.specs.Sets.{join, set_of}
use Rattle.files.specs.Bytes.{count_of, records, records_of}
use Rattle.files.specs.Bytes.Laws.{length_records_of}
use Rattle.files.specs.Case.{Head, head, EdgeBytes, edge_bytes, edge_records, entries_of, final_entries, inner_edges, move_of, move_records, own_of}
use Rattle.automata.specs.Automaton.{Move, Entry}
use Rattle.services.specs.Memory.{entry_width, Counted, with_counts, counted}
use Rattle.services.specs.Memory.Laws.{length_with_counts}
use Rattle.tables.specs.declared.Table.{Table}
use Rattle.tables.specs.Rows.{Layout, rows_in}
use Rattle.tables.specs.Layouts.{edge_row, entry_row, counted_row, move_row}
use Rattle.tables.specs.Laws.Exact.{counted_exact}
use Rattle.tables.specs.Counts.{CountsAre}
use Rattle.tables.specs.Counts.Laws.{rows_counts, rows_entries}
use Rattle.tables.specs.Held.{automaton_of}
use Rattle.bytes_in.specs.Records.{body_of}
use Rattle.bytes_in.specs.Records.Laws.{records_here}
use Rattle.case_tables.specs.WrittenRows.{written}
use Rattle.case_tables.specs.WrittenRows.Laws.{rows_written, length_written, drop_written, written_whole}
use Rattle.case_tables.specs.Counting.Laws.{counts_written}
use Rattle.case_tables.specs.Own.{HoldsOwn}

-- ---- the lists of the automaton, by the bodies that are read

edges_here : (file body : List ℕ) (n : ℕ) → body ≡ body_of file 2 4 → n ≡ count_of file 2 → map edge_bytes (records n 4 body) ≡ edge_records file
unfolding edge_records
edges_here file body n e f = ap (map edge_bytes) (records_here file 2 4 body n e f)

pub own_inner : (file body : List ℕ) (n : ℕ) (h : Head) → h ≡ head file → body ≡ body_of file 2 4 → n ≡ count_of file 2
    → inner_edges h (map edge_bytes (records n 4 body)) ≡ (own_of file).inner
unfolding own_of
own_inner file body n h g e f = ap₂ inner_edges g (edges_here file body n e f)

pub own_entries : (file body : List ℕ) (n : ℕ) (h : Head) → h ≡ head file → body ≡ body_of file 2 4 → n ≡ count_of file 2
    → entries_of h (map edge_bytes (records n 4 body)) ≡ (own_of file).entries
unfolding own_of
own_entries file body n h g e f = ap₂ entries_of g (edges_here file body n e f)

pub own_moves_holds : (file body : List ℕ) (n : ℕ) → body ≡ body_of file 3 19 → n ≡ count_of file 3
    → map move_of (records n 19 body) ≡ (own_of file).moves
unfolding own_of move_records
own_moves_holds file body n e f = ap (map move_of) (records_here file 3 19 body n e f)

-- the final states of order 1
pub own_finals : (file body : List ℕ) (n : ℕ) (h : Head) {s f : ℕ} → body ≡ body_of file 2 4 → n ≡ count_of file 2
    → s ≡ set_of (final_entries h h.J (map edge_bytes (records n 4 body))) → f ≡ join h.final1 s
    → f ≡ join h.final1 (set_of (final_entries h h.J (edge_records file)))
own_finals file body n h e f s j =
    j ∙ ap (join h.final1) (s ∙ ap (λ (xs : List EdgeBytes). set_of (final_entries h h.J xs)) (edges_here file body n e f))

-- and that a word holds them
pub own_few : (file body : List ℕ) (n : ℕ) (h : Head) → h ≡ head file → body ≡ body_of file 2 4 → n ≡ count_of file 2
    → (own_of file).J + length (own_of file).entries ≤ 64 → h.J + length (entries_of h (map edge_bytes (records n 4 body))) ≤ 64
unfolding own_of
own_few file body n h g e f l =
    let j : h.J ≡ (head file).J = ap (λ (x : Head). x.J) g in
    rw (own_entries file body n h g e f, j) l

holds_rows : {A : Type 0} (L : Layout A) (l : List A) (t₀ t : List ℕ) (n : ℕ) → HoldsOwn L l t₀ t n → rows_in L n t ≡ l
holds_rows L l t₀ t n h =
    let e : n * L.width ≡ length l * L.width = ap (λ (k : ℕ). k * L.width) h.count in
    let r : n * L.width ≤ length t₀ = h.room in
    ap₂ (rows_in L) h.count h.is ∙ rows_written L t₀ l (omega arith)

-- the entries of a table that holds them with their numbers of moves
module _ (file e₀ e : List ℕ) (n : ℕ) (h : HoldsOwn counted_row (counted (own_of file)) e₀ e n) where
  known_few : length (own_of file).entries ≡ n
  unfolding counted
  known_few = sym (h.count ∙ length_with_counts (own_of file).moves (own_of file).J (own_of file).entries)

  known_rows : rows_in counted_row n e ≡ with_counts (own_of file).moves (own_of file).J (own_of file).entries
  unfolding counted
  known_rows = holds_rows counted_row (counted (own_of file)) e₀ e n h

  holds_known : rows_in entry_row n e ≡ (own_of file).entries
  holds_known = rows_entries (own_of file).J n e (own_of file).moves (own_of file).entries known_few known_rows

  holds_counts : CountsAre (own_of file).J n e (own_of file).moves
  holds_counts = rows_counts (own_of file).J n e (own_of file).moves (own_of file).entries known_few known_rows

-- "the count by walking after round 0"
pub own_counted : (file : List ℕ) (J n k : ℕ) (e₀ e m₀ m : List ℕ) (h : Head) → h ≡ head file → J ≡ h.J
    → HoldsOwn counted_row (counted (own_of file)) e₀ e n → HoldsOwn move_row (own_of file).moves m₀ m k → CountsAre J n e (rows_in move_row k m)
unfolding own_of
own_counted file J n k e₀ e m₀ m h g j he hm =
    subst₂ (λ (x : ℕ) (ms : List Move). CountsAre x n e ms) (sym (j ∙ ap (λ (x : Head). x.J) g))
    (sym (holds_rows move_row (own_of file).moves m₀ m k hm)) (holds_counts file e₀ e n he)

pub own_loaded : (file : List ℕ) (z : Table) (i₀ i e₀ e m₀ m : List ℕ) (h : Head) → h ≡ head file
    → z.inner1 ≡ h.J → z.final1 ≡ join h.final1 (set_of (final_entries h h.J (edge_records file))) → z.final2 ≡ h.final2
    → HoldsOwn edge_row (own_of file).inner i₀ i z.edges
    → HoldsOwn counted_row (counted (own_of file)) e₀ e z.entries
    → HoldsOwn move_row (own_of file).moves m₀ m z.moves
    → automaton_of z i e m ≡ own_of file
unfolding own_of
own_loaded file z i₀ i e₀ e m₀ m h g j f₁ f₂ hi he hm =
    let j' : z.inner1 ≡ (head file).J = j ∙ ap (λ (x : Head). x.J) g in
    let f₁' : z.final1 ≡ join (head file).final1 (set_of (final_entries (head file) (head file).J (edge_records file))) =
    f₁ ∙ ap (λ (x : Head). join x.final1 (set_of (final_entries x x.J (edge_records file)))) g in
    let f₂' : z.final2 ≡ (head file).final2 = f₂ ∙ ap (λ (x : Head). x.final2) g in
    let ri : rows_in edge_row z.edges i ≡ (own_of file).inner = holds_rows edge_row (own_of file).inner i₀ i z.edges hi in
    let re : rows_in entry_row z.entries e ≡ (own_of file).entries = holds_known file e₀ e z.entries he in
    let rm : rows_in move_row z.moves m ≡ (own_of file).moves = holds_rows move_row (own_of file).moves m₀ m z.moves hm in
    λ k. record { J = j' k; final1 = f₁' k; final2 = f₂' k; inner = ri k; entries = re k; moves = rm k }

length_moves : (file : List ℕ) → length (own_of file).moves ≡ count_of file 3
unfolding own_of move_records
length_moves file = length-map (records_of file 3 19) move_of ∙ length_records_of file 3 19

-- ---- the calls

pub holds_inner : (file body i₀ i : List ℕ) (n k : ℕ) (h : Head) → h ≡ head file → body ≡ body_of file 2 4 → n ≡ count_of file 2
    → i ≡ written edge_row i₀ 0 (inner_edges h (map edge_bytes (records n 4 body))) → k ≡ length (inner_edges h (map edge_bytes (records n 4 body)))
    → k ≤ n → count_of file 2 * 3 ≤ length i₀ → HoldsOwn edge_row (own_of file).inner i₀ i k
holds_inner file body i₀ i n k h g e f p q l r =
    let own : inner_edges h (map edge_bytes (records n 4 body)) ≡ (own_of file).inner = own_inner file body n h g e f in
    record { is = p ∙ ap (written edge_row i₀ 0) own; count = q ∙ ap length own; room = omega arith }

pub holds_entries : (file body e₀ e : List ℕ) (n k : ℕ) (h : Head) → h ≡ head file → body ≡ body_of file 2 4 → n ≡ count_of file 2
    → e ≡ written entry_row e₀ 0 (entries_of h (map edge_bytes (records n 4 body))) → k ≡ length (entries_of h (map edge_bytes (records n 4 body)))
    → length (own_of file).entries * entry_width ≤ length e₀ → HoldsOwn entry_row (own_of file).entries e₀ e k
holds_entries file body e₀ e n k h g d f p q r =
    let own : entries_of h (map edge_bytes (records n 4 body)) ≡ (own_of file).entries = own_entries file body n h g d f in
    let count : k ≡ length (own_of file).entries = q ∙ ap length own in
    record { is = p ∙ ap (written entry_row e₀ 0) own; count = count; room = omega arith }

pub holds_moves : (file body m₀ m : List ℕ) (n : ℕ) → body ≡ body_of file 3 19 → n ≡ count_of file 3
    → m ≡ written move_row m₀ 0 (map move_of (records n 19 body)) → count_of file 3 * 5 ≤ length m₀ → HoldsOwn move_row (own_of file).moves m₀ m n
holds_moves file body m₀ m n e f p r =
    record { is = p ∙ ap (written move_row m₀ 0) (own_moves_holds file body n e f); count = f ∙ sym (length_moves file); room = omega arith }

-- what is asked of the entries before the moves are counted
pub entries_ready : (file e₀ e : List ℕ) (k J : ℕ) → HoldsOwn entry_row (own_of file).entries e₀ e k → (k * entry_width ≤ length e) × CountsAre J k e []
entries_ready file e₀ e k J h =
    let es : List Entry = (own_of file).entries in
    let count : k ≡ length es = h.count in
    let room : k * entry_width ≤ length e₀ = h.room in
    let long : length e ≡ length e₀ = ap length h.is ∙ length_written entry_row e₀ 0 es in
    (omega arith, subst₂ (λ (n : ℕ) (t : List ℕ). CountsAre J n t []) (sym count) (sym h.is) (counts_written J e₀ es (omega arith)))

pub holds_counted : (file body e₀ e₁ e : List ℕ) (n k : ℕ) (h : Head) → h ≡ head file → body ≡ body_of file 3 19 → n ≡ count_of file 3
    → HoldsOwn entry_row (own_of file).entries e₀ e₁ k
    → e ≡ written counted_row e₁ 0 (with_counts (map move_of (records n 19 body)) h.J (rows_in entry_row k e₁)) → HoldsOwn counted_row (counted (own_of file)) e₀ e k
unfolding own_of counted
holds_counted file body e₀ e₁ e n k h g b f old p =
    let l : List Counted = counted (own_of file) in
    let es : List Entry = (own_of file).entries in
    let is : e ≡ written counted_row e₁ 0 l =
    p ∙ (λ i. written counted_row e₁ 0 (with_counts (own_moves_holds file body n b f i) (g i).J (holds_rows entry_row es e₀ e₁ k old i))) in
    let len : length l ≡ length es = length_with_counts (own_of file).moves (own_of file).J es in
    let count : k ≡ length es = old.count in
    let room : k * entry_width ≤ length e₀ = old.room in
    let long : length e₁ ≡ length e₀ = ap length old.is ∙ length_written entry_row e₀ 0 es in
    record {
      is =
          written_whole counted_row counted_exact e₀ e l (omega arith) (ap length is ∙ length_written counted_row e₁ 0 l ∙ long)
          (ap (rows_in counted_row (length l)) is ∙ rows_written counted_row e₁ l (omega arith))
          (ap (drop (length l * entry_width)) is
          ∙ drop_written counted_row e₁ 0 l (length l) (omega arith)
          ∙ ap (drop (length l * entry_width)) old.is
          ∙ drop_written entry_row e₀ 0 es (length l) (omega arith));
      count = count ∙ sym len;
      room = room;
    }
