-- The order in which the code holds edges against each other is both of the documents' orders: of edges by (state, S, second byte), and of
-- entries by (state, S).
-- Assumes nothing.
use Rattle.std.specs.Prelude.{ℕ, ◌<◌, Bool, false, ◌&&◌, ◌≡◌, ltb}
use Rattle.std.proofs.Math.Bool.{true}
use Rattle.std.proofs.Math.Path.{refl, ap}
use Rattle.std.proofs.Common.{ap₂, ◌∙◌, arith}
use Rattle.std.proofs.Math.Logic.{⊎_elim}
use mathlib.Core.List.{List, [], ◌∷◌, map}
use Rattle.words.specs.Laws.Tests.{by_test, and_left, and_right, equal_tests}
use Rattle.words.specs.Lists.{only}
use Rattle.words.specs.Lists.Laws.{only_out, only_yes, only_no}
use Rattle.words.specs.Order.{less, rising_from, rising}
use Rattle.words.specs.Order.Laws.{less_lt, less_eq, less_one, one_less, less_cons, less_differs, rising_from_cons, rising_from_parts, rising_tail, rising_only, rising_map}
use Rattle.words.specs.Order.Rising.{rising_other}
use Rattle.automata.specs.Automaton.{Entry, entry_key}
use Rattle.files.specs.Bytes.{count_of, records}
use Rattle.files.specs.Case.{Head, head, EdgeBytes, edge_bytes, edge_key, edge_records, entries_of}
use Rattle.bytes_in.specs.Records.{body_of}
use Rattle.bytes_in.specs.Records.Laws.{records_here}
use Rattle.case_records.specs.Keys.{order_byte, edge_order}

module _ (h : Head) where
  -- the edge is an entry
  abbrev is_entry : EdgeBytes → Bool
  is_entry x = ltb x.state h.P

  -- the entry that it is
  abbrev entry_of : EdgeBytes → Entry
  entry_of x = record { control = x.state; S = x.S }

  order_entry : (x : EdgeBytes) → is_entry x ≡ true → order_byte h x ≡ 0
  unfolding order_byte
  order_entry x t = rw (order_byte, t)

  order_inner : (x : EdgeBytes) → is_entry x ≡ false → order_byte h x ≡ x.first
  unfolding order_byte
  order_inner x t = rw (order_byte, t)

  -- what comes before in this order comes before by (state, S, second byte),
  order_key : (x y : EdgeBytes) → less (edge_order h x) (edge_order h y) ≡ true → less (edge_key x) (edge_key y) ≡ true
  unfolding edge_order edge_key
  order_key x y e =
      let last : x.state ≡ y.state → order_byte h x < order_byte h y → x.first < y.first = λ s l. by_test (is_entry x)
      (λ t. let a = order_entry x t in let b = order_entry y (rw s at t) in absurd (omega arith))
      (λ t. let a = order_inner x t in let b = order_inner y (rw s at t) in omega arith) in
      ⊎_elim (λ l. less_lt _ _ _ _ l)
      (λ (s, f). less_eq _ _ _ _ s
      ∙ ⊎_elim (λ l. less_lt _ _ _ _ l) (λ (r, g). less_eq _ _ _ _ r ∙ less_one _ _ (last s (one_less _ _ g))) (less_cons _ _ _ _ f))
      (less_cons _ _ _ _ e)

  -- and entries by (state, S)
  order_entries : (x y : EdgeBytes) → is_entry x ≡ true → is_entry y ≡ true → less (edge_order h x) (edge_order h y) ≡ true
      → less (x.state ∷ x.S ∷ []) (y.state ∷ y.S ∷ []) ≡ true
  unfolding edge_order
  order_entries x y s t e =
      let a = order_entry x s in
      let b = order_entry y t in
      ⊎_elim (λ l. less_lt _ _ _ _ l)
      (λ (p, f). less_eq _ _ _ _ p
      ∙ ⊎_elim (λ l. less_lt _ _ _ _ l) (λ (q, g). let l : order_byte h x < order_byte h y = one_less _ _ g in absurd (omega arith)) (less_cons _ _ _ _ f))
      (less_cons _ _ _ _ e)

  -- the other way for an edge and the next
  key_order : (x y : EdgeBytes) (ys : List EdgeBytes) → less (edge_key x) (edge_key y) ≡ true → rising entry_key (entries_of h (x ∷ y ∷ ys)) ≡ true
      → less (edge_order h x) (edge_order h y) ≡ true
  unfolding edge_order edge_key entries_of entry_key rising
  key_order x y ys e f =
      let differ : x.state ≡ y.state → x.S ≡ y.S → is_entry x ≡ true → ⊥ = λ s r t.
      let two : only is_entry (x ∷ y ∷ ys) ≡ x ∷ y ∷ only is_entry ys =
      only_yes is_entry x (y ∷ ys) t ∙ ap (λ (l : List EdgeBytes). x ∷ l) (only_yes is_entry y ys (rw s at t)) in
      let both : rising_from entry_key (entry_of x) (entry_of y ∷ map entry_of (only is_entry ys)) ≡ true = rw two at f in
      let (less_both, _) = rising_from_parts entry_key (entry_of x) (entry_of y) (map entry_of (only is_entry ys)) both in
      less_differs (x.state ∷ x.S ∷ []) (y.state ∷ y.S ∷ []) less_both (λ i. s i ∷ r i ∷ []) in
      let last : x.state ≡ y.state → x.S ≡ y.S → x.first < y.first → order_byte h x < order_byte h y = λ s r l. by_test (is_entry x)
      (λ t. absurd (differ s r t))
      (λ t. let a = order_inner x t in let b = order_inner y (rw s at t) in omega arith) in
      ⊎_elim (λ l. less_lt _ _ _ _ l)
      (λ (s, k). less_eq _ _ _ _ s
      ∙ ⊎_elim (λ l. less_lt _ _ _ _ l) (λ (r, g). less_eq _ _ _ _ r ∙ less_one _ _ (last s r (one_less _ _ g))) (less_cons _ _ _ _ k))
      (less_cons _ _ _ _ e)

  entries_tail : (x : EdgeBytes) (xs : List EdgeBytes) → rising entry_key (entries_of h (x ∷ xs)) ≡ true → rising entry_key (entries_of h xs) ≡ true
  unfolding entries_of rising
  entries_tail x xs e = by_test (is_entry x)
      (λ t. rising_tail entry_key (entry_of x) _ (rw (only_yes is_entry x xs t) at e))
      (λ t. rw (only_no is_entry x xs t) at e)

  keys_order : (x : EdgeBytes) (xs : List EdgeBytes) → rising_from edge_key x xs ≡ true → rising entry_key (entries_of h (x ∷ xs)) ≡ true
      → rising_from (edge_order h) x xs ≡ true
  unfolding rising_from
  keys_order x [] e f = refl
  keys_order x (y ∷ ys) e f =
      let (a, b) = rising_from_parts edge_key x y ys e in
      rising_from_cons (edge_order h) x y ys (key_order x y ys a f) (keys_order y ys b (entries_tail x (y ∷ ys) f))

  order_keys : (xs : List EdgeBytes) → rising (edge_order h) xs ≡ true → rising edge_key xs && rising entry_key (entries_of h xs) ≡ true
  unfolding entries_of entry_key
  order_keys xs e =
      let es : List EdgeBytes = only is_entry xs in
      let keys : rising edge_key xs ≡ true = rising_other (edge_order h) edge_key xs (λ x y i j l. order_key x y l) e in
      let entries : rising entry_key (entries_of h xs) ≡ true = rising_map entry_key entry_of es
      ∙ rising_other (edge_order h) (λ x. x.state ∷ x.S ∷ []) es
      (λ x y i j l. order_entries x y (only_out is_entry xs i).1 (only_out is_entry xs j).1 l) (rising_only (edge_order h) is_entry xs e) in
      rw (keys, entries)

  all_order : (xs : List EdgeBytes) → rising edge_key xs ≡ true → rising entry_key (entries_of h xs) ≡ true → rising (edge_order h) xs ≡ true
  unfolding rising
  all_order [] e f = refl
  all_order (x ∷ xs) e f = keys_order x xs e f

  -- The edges are strictly increasing in this order exactly if they are by (state, S, second byte) and the entries by (state, S).
  pub order_is : (xs : List EdgeBytes) → rising (edge_order h) xs ≡ rising edge_key xs && rising entry_key (entries_of h xs)
  order_is xs = equal_tests _ _ (order_keys xs) (λ e. all_order xs (and_left (rising edge_key xs) _ e) (and_right (rising edge_key xs) _ e))

-- the edges of a file, as the code finds them
pub edges_are : (file body : List ℕ) (n : ℕ) (h : Head) {r : Bool} → h ≡ head file → body ≡ body_of file 2 4 → n ≡ count_of file 2
    → r ≡ rising (edge_order h) (map edge_bytes (records n 4 body)) → r ≡ rising edge_key (edge_records file) && rising entry_key (entries_of (head file) (edge_records file))
unfolding edge_records
edges_are file body n h g e f r =
    r
    ∙ ap₂ (λ (k : Head) (xs : List (List ℕ)). rising (edge_order k) (map edge_bytes xs)) g (records_here file 2 4 body n e f)
    ∙ order_is (head file) (edge_records file)
