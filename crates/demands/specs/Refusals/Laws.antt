-- The first number of the papers' table that applies: there is only one, and the tests of the files find it.
-- Assumes nothing.
use Prim.Native.Nat.{ℕ, zero, suc, ◌+◌, ◌<◌, suc-le-suc}
use Rattle.std.proofs.Math.Bool.{Bool, not, false≢true}
use Rattle.std.specs.Prelude.{true, false, ◌&&◌, ◌≡◌, ◌↔◌, ◌⊎◌, length, get_or, eqb, ltb, leb}
use Rattle.std.proofs.Math.Path.{refl, sym, subst}
use Rattle.std.proofs.Common.{ap, ap₂, ◌∙◌, zero-add, leb-false}
use Rattle.std.proofs.Math.Logic.{inl, inr, ⊎_elim}
use mathlib.Core.List.{List, [], ◌∷◌, ◌++◌, map, Memᴰ}
use native.Mathlib.Omega.{arith}
use Rattle.std.proofs.lemmas.Bool.{eqb-false, lt-leb}
use borrow.Author.Tests as tests
use Rattle.words.specs.Lists.{only, every}
use Rattle.words.specs.Lists.Laws.{every_in}
use Rattle.words.specs.Laws.Tests.{by_test, and_left, and_right}
use Rattle.words.specs.Order.{less, rising_from, rising}
use Rattle.words.specs.Order.Laws.{less_lt, less_eq, less_cons, less_one, rising_from_parts, rising_only}
use Rattle.words.specs.Order.Rising.{rising_once}
use Rattle.automata.specs.Automaton.{Entry, no_entry, entry_key}
use Rattle.automata.specs.Automaton.Laws.{entry_key_eq}
use Rattle.files.specs.Bytes.{Test, first_hit, tests_on}
use Rattle.files.specs.Bytes.Laws.{numbered, numbered_cons, numbered_tests_on, unrefused, first_hit_fails, first_hit_passes, first_hit_tests_on}
use Rattle.files.specs.Codes.{codes_right}
use Rattle.files.specs.Case.{case_placed, codes_of, head, head_right, rule_right, rule_records, EdgeBytes, edge_right, edge_key, edge_records, entries_of, move_right, move_key, move_records, states1}
use Rattle.files.specs.Case.{records_right, increasing, case_tests, case_refusal}
use Rattle.files.specs.Start.{Files, start_placed, starts_of, start_right, CellBytes, cell_records, cell_right, cells_right, start_file_right, start_tests, start_refusal}
use Rattle.services.proofs.Saturate.Laws.{case_numbered}
use Rattle.services.specs.Judge.Laws.{start_numbered}
use Rattle.demands.specs.Refusals.{Refusal, Returned, SomeFails, BoundBroken, SecondEntry, NotIncreasing, CellWrong, StartOrCellWrong, case_refusals, start_refusals}
use Rattle.demands.specs.Refusals.Codes.{codes_wrong}

-- ---- the first number that applies

module _ {X : Type 0} where
  -- there is only one
  pub returned_one : (rs : List (Refusal X)) (x : X) {n m : ℕ} → Returned rs x n → Returned rs x m → n ≡ m
  unfolding Returned
  returned_one [] x e f = e ∙ sym f
  returned_one (r ∷ rs) x (inl (a, e)) (inl (b, f)) = e ∙ sym f
  returned_one (r ∷ rs) x (inl (a, e)) (inr (b, f)) = absurd (b a)
  returned_one (r ∷ rs) x (inr (a, e)) (inl (b, f)) = absurd (a b)
  returned_one (r ∷ rs) x (inr (a, e)) (inr (b, f)) = returned_one rs x e f

  -- it is 0 or a number of the table
  pub returned_listed : (rs : List (Refusal X)) (x : X) (n : ℕ) → Returned rs x n → Memᴰ n (0 ∷ map (λ r. r.number) rs)
  unfolding Returned
  returned_listed [] x n e = Memᴰ.head e
  returned_listed (r ∷ rs) x n (inl (a, e)) = Memᴰ.tail (Memᴰ.head e)
  returned_listed (r ∷ rs) x n (inr (a, e)) = later (returned_listed rs x n e)
    where
      later : Memᴰ n (0 ∷ map (λ s. s.number) rs) → Memᴰ n (0 ∷ map (λ s. s.number) (r ∷ rs))
      later (Memᴰ.head z) = Memᴰ.head z
      later (Memᴰ.tail j) = Memᴰ.tail (Memᴰ.tail j)

  -- where no number is returned, the first line does not apply, and none of the others is returned
  pub unreturned : (r : Refusal X) (rs : List (Refusal X)) (x : X) → (0 ≡ r.number → ⊥) → Returned (r ∷ rs) x 0 → (r.applies x → ⊥) × Returned rs x 0
  unfolding Returned
  unreturned r rs x bad (inl (a, e)) = absurd (bad e)
  unreturned r rs x bad (inr (a, e)) = (a, e)

  -- ---- lines before others

  -- k is the number of none of these lines
  unfoldable pub unlisted : ℕ → List (Refusal X) → Bool
  unlisted k [] = true
  unlisted k (r ∷ rs) = not (eqb k r.number) && unlisted k rs

  unlisted_cons : (k : ℕ) (r : Refusal X) (rs : List (Refusal X)) → unlisted k (r ∷ rs) ≡ true → (k ≡ r.number → ⊥) × (unlisted k rs ≡ true)
  unfolding unlisted
  unlisted_cons k r rs u =
      let t : Bool = not (eqb k r.number) in
      (eqb-false k r.number (tests.not-true (eqb k r.number) (and_left t _ u)), and_right t _ u)

  -- where no number is returned, none of the first lines is
  pub returned_before : (rs more : List (Refusal X)) (x : X) → Returned (rs ++ more) x 0 → Returned rs x 0
  unfolding Returned
  returned_before [] more x e = refl
  returned_before (r ∷ rs) more x (inl a) = inl a
  returned_before (r ∷ rs) more x (inr (a, e)) = inr (a, returned_before rs more x e)

  -- where no number is returned, none of the lines that follow is
  pub returned_after : (rs more : List (Refusal X)) (x : X) → unlisted 0 rs ≡ true → Returned (rs ++ more) x 0 → Returned more x 0
  returned_after [] more x u e = e
  returned_after (r ∷ rs) more x u e =
      let (h, v) = unlisted_cons 0 r rs u in
      returned_after rs more x v (unreturned r (rs ++ more) x h e).1

  -- where none of the first lines is returned, those that follow count
  pub returned_then : (rs more : List (Refusal X)) (x : X) (n : ℕ) → unlisted 0 rs ≡ true → Returned rs x 0 → Returned more x n → Returned (rs ++ more) x n
  unfolding Returned
  returned_then [] more x n u e b = b
  returned_then (r ∷ rs) more x n u e b =
      let (h, v) = unlisted_cons 0 r rs u in
      let (a, f) = unreturned r rs x h e in
      inr (a, returned_then rs more x n v f b)

  -- where the number of the last line alone is returned, that line applies, and none before it is returned
  pub returned_last : (rs : List (Refusal X)) (r : Refusal X) (x : X) → unlisted r.number rs ≡ true → (r.number ≡ 0 → ⊥)
      → Returned (rs ++ r ∷ []) x r.number → Returned rs x 0 × r.applies x
  unfolding Returned
  returned_last [] r x u bad (inl (a, e)) = (refl, a)
  returned_last [] r x u bad (inr (a, e)) = absurd (bad e)
  returned_last (s ∷ rs) r x u bad (inl (a, e)) = absurd ((unlisted_cons r.number s rs u).0 e)
  returned_last (s ∷ rs) r x u bad (inr (a, e)) =
      let (f, b) = returned_last rs r x (unlisted_cons r.number s rs u).1 bad e in
      (inr (a, f), b)

  -- ---- tests and lines

  -- A list of tests and a list of refusals say the same of x: each test has the number of its refusal and fails exactly if that applies, where
  -- the tests before it have passed.
  unfoldable pub Agree : List (Test X) → List (Refusal X) → X → Type 0
  Agree [] [] x = Unit {0}
  Agree [] (r ∷ rs) x = ⊥
  Agree (t ∷ ts) [] x = ⊥
  Agree (t ∷ ts) (r ∷ rs) x =
      (t.refusal ≡ r.number) × ((t.fails x ≡ true) ↔ r.applies x) × (t.fails x ≡ false → Agree ts rs x)

  -- where a test fails, the number of the first is returned, whatever lines follow
  returned_stays : (ts : List (Test X)) (rs more : List (Refusal X)) (x : X) → Agree ts rs x → (first_hit ts x ≡ 0 → ⊥)
      → Returned (rs ++ more) x (first_hit ts x)
  unfolding Returned Agree first_hit
  returned_stays [] [] more x a h = absurd (h refl)
  returned_stays [] (r ∷ rs) more x a h = absurd a
  returned_stays (t ∷ ts) [] more x a h = absurd a
  returned_stays (t ∷ ts) (r ∷ rs) more x (e, (f, g), k) h =
      by_test (t.fails x)
      (λ y. rw (first_hit_fails t ts x y) (inl (f y, e)))
      (λ y.
      rw (first_hit_passes t ts x y)
      (inr (λ a. false≢true (sym y ∙ g a), returned_stays ts rs more x (k y) (λ z. h (first_hit_passes t ts x y ∙ z)))))

  -- where no test fails, the lines that follow count
  returned_past : (ts : List (Test X)) (rs more : List (Refusal X)) (x : X) (n : ℕ) → Agree ts rs x → numbered ts ≡ true → first_hit ts x ≡ 0
      → Returned more x n → Returned (rs ++ more) x n
  unfolding Returned Agree
  returned_past [] [] more x n a d h b = b
  returned_past [] (r ∷ rs) more x n a d h b = absurd a
  returned_past (t ∷ ts) [] more x n a d h b = absurd a
  returned_past (t ∷ ts) (r ∷ rs) more x n (e, (f, g), k) d h b =
      let y = unrefused x d h (Memᴰ.head {x = t} {xs = ts} refl) in
      inr (λ a. false≢true (sym y ∙ g a), returned_past ts rs more x n (k y) (numbered_cons t ts d).1 (sym (first_hit_passes t ts x y) ∙ h) b)

-- ---- tests that fail

not_true : (b : Bool) → (not b ≡ true) ↔ (b ≡ false)
not_true true = (λ e. absurd (false≢true e), λ e. sym e)
not_true false = (λ _. refl, λ _. refl)

-- one of two tests fails
and_fails : (a b : Bool) → (a && b ≡ false) ↔ ((a ≡ false) ⊎ (b ≡ false))
and_fails true b = (λ e. inr e, λ z. ⊎_elim (λ e. absurd (false≢true (sym e))) (λ e. e) z)
and_fails false b = (λ _. inl refl, λ _. refl)

every_fails : {X : Type 0} (test : X → Bool) (l : List X) → every test l ≡ false → SomeFails test l
unfolding every
every_fails test [] e = absurd (false≢true (sym e))
every_fails test (x ∷ xs) e = by_test (test x)
    (λ t. let s = every_fails test xs (rw (every, t) at e) in record { record_is = s.record_is; among = Memᴰ.tail s.among; fails = s.fails })
    (λ t. record { record_is = x; among = Memᴰ.head refl; fails = t })

some_fails : {X : Type 0} (test : X → Bool) (l : List X) → SomeFails test l → every test l ≡ false
some_fails test l s = by_test (every test l) (λ t. absurd (false≢true (sym s.fails ∙ every_in test t s.among))) (λ t. t)

-- ---- 3 and 6: a record that breaks a bound

-- of four tests that are asked in this order, one fails
four_fail : (a b c d : Bool) → (a && b && c && d ≡ false) ↔ ((a ≡ false) ⊎ ((b ≡ false) ⊎ ((d ≡ false) ⊎ (c ≡ false))))
four_fail true true true d = (λ e. inr (inr (inl e)), λ z. ⊎_elim (λ e. absurd (false≢true (sym e))) (λ y. ⊎_elim (λ e. absurd (false≢true (sym e))) (λ w. ⊎_elim (λ e. e) (λ e. absurd (false≢true (sym e))) w) y) z)
four_fail true true false d = (λ e. inr (inr (inr refl)), λ _. refl)
four_fail true false c d = (λ e. inr (inl refl), λ _. refl)
four_fail false b c d = (λ e. inl refl, λ _. refl)

bound_broken : (case : List ℕ) → (records_right case ≡ false) ↔ BoundBroken case
unfolding records_right
bound_broken case =
    let rules : Bool = every (rule_right (head case)) (rule_records case) in
    let edges : Bool = every (edge_right (head case)) (edge_records case) in
    let few : Bool = leb (states1 case) 64 in
    let moves : Bool = every (move_right (head case) (states1 case)) (move_records case) in
    let (f, g) = four_fail rules edges few moves in (
      λ e. ⊎_elim (λ h. inl (every_fails _ _ h)) (λ y. inr (⊎_elim (λ h. inl (every_fails _ _ h)) (λ z. inr (⊎_elim (λ h. inl (every_fails _ _ h)) (λ h. inr (leb-false (states1 case) 64 h)) z)) y)) (f e),
      λ e. g (⊎_elim (λ h. inl (some_fails _ _ h)) (λ y. inr (⊎_elim (λ h. inl (some_fails _ _ h)) (λ z. inr (⊎_elim (λ h. inl (some_fails _ _ h)) (λ h. inr (lt-leb (states1 case) 64 h)) z)) y)) e),
    )

abbrev no_cell : CellBytes
no_cell = record { kind = 0; symbol = 0; first = 0; second = 0 }

-- of the cells from number n on, one is wrong
cells_fail : (A : ℕ) (cells : List CellBytes) (n : ℕ) (xs : List CellBytes) → cells_right A cells n xs ≡ false
    → (k : ℕ) × (k < length xs) × (cell_right A cells (n + k) (get_or xs k no_cell) ≡ false)
unfolding cells_right
cells_fail A cells n [] e = absurd (false≢true (sym e))
cells_fail A cells n (x ∷ xs) e = by_test (cell_right A cells n x)
    (λ t.
    let (k, l, f) = cells_fail A cells (suc n) xs (rw (cells_right, t) at e) in
    let z : suc n + k ≡ n + suc k = omega arith in
    (suc k, omega arith, rw z at f))
    (λ t. (0, omega arith, let z : n ≡ n + 0 = omega arith in rw z at t))

cell_right_lem : (A : ℕ) (cells : List CellBytes) (n : ℕ) (xs : List CellBytes) → cells_right A cells n xs ≡ true → (k : ℕ) → k < length xs
    → cell_right A cells (n + k) (get_or xs k no_cell) ≡ true
unfolding cells_right
cell_right_lem A cells n [] e zero l = absurd (omega arith)
cell_right_lem A cells n [] e (suc k) l = absurd (omega arith)
cell_right_lem A cells n (x ∷ xs) e zero l = by_test (cell_right A cells n x)
    (λ t. let z : n ≡ n + 0 = omega arith in rw z at t)
    (λ t. absurd (false≢true (rw (cells_right, t) at e)))
cell_right_lem A cells n (x ∷ xs) e (suc k) l = by_test (cell_right A cells n x)
    (λ t.
    let z : suc n + k ≡ n + suc k = omega arith in
    rw z at (cell_right_lem A cells (suc n) xs (rw (cells_right, t) at e) k (omega arith)))
    (λ t. absurd (false≢true (rw (cells_right, t) at e)))

cell_wrong : (A : ℕ) (cells : List CellBytes) → (cells_right A cells 0 cells ≡ false) ↔ CellWrong A cells
cell_wrong A cells = (
  λ e. let (k, l, f) = cells_fail A cells 0 cells e in record { number = k; there = l; fails = rw (zero-add k) at f },
  λ w.
      by_test (cells_right A cells 0 cells)
      (λ t.
      let h : cell_right A cells w.number (get_or cells w.number no_cell) ≡ true = rw (zero-add w.number) at (cell_right_lem A cells 0 cells t w.number w.there) in
      absurd (false≢true (sym w.fails ∙ h)))
      (λ t. t),
)

start_wrong : (f : Files) → (start_file_right f ≡ false) ↔ StartOrCellWrong f
unfolding start_file_right
start_wrong f =
    let starts : Bool = every (start_right (head f.case).P (cell_records f.start)) (starts_of f.start) in
    let cells : Bool = cells_right (head f.case).A (cell_records f.start) 0 (cell_records f.start) in
    let (p, q) = and_fails starts cells in
    let (c, d) = cell_wrong (head f.case).A (cell_records f.start) in (
      λ e. ⊎_elim (λ h. inl (every_fails _ _ h)) (λ h. inr (c h)) (p e),
      λ e. q (⊎_elim (λ h. inl (some_fails _ _ h)) (λ h. inr (d h)) e),
    )

-- ---- 4: edges, entries and moves that do not increase

-- A list that rises by a key, but whose images do not rise by another key that never falls along it, has two neighbours of equal other key.
module _ {A B : Type 0} (key : A → List ℕ) (other : B → List ℕ) (f : A → B)
    (along : (x y : A) → less (key x) (key y) ≡ true → (less (other (f x)) (other (f y)) ≡ true) ⊎ (other (f x) ≡ other (f y))) (d : B) where
  repeats_from : (x : A) (l : List A) → rising_from key x l ≡ true → rising_from other (f x) (map f l) ≡ false
      → (i : ℕ) × (i < length (map f l)) × (other (get_or (f x ∷ map f l) i d) ≡ other (get_or (map f l) i d))
  unfolding rising_from
  repeats_from x [] r e = absurd (false≢true (sym e))
  repeats_from x (y ∷ l) r e =
      let (h, t) = rising_from_parts key x y l r in
      by_test (less (other (f x)) (other (f y)))
      (λ z. let (i, b, q) = repeats_from y l t (rw (rising_from, z) at e) in (suc i, suc-le-suc b, q))
      (λ z. ⊎_elim (λ k. absurd (false≢true (sym z ∙ k))) (λ k. (0, omega arith, k)) (along x y h))

  repeats : (l : List A) → rising key l ≡ true → rising other (map f l) ≡ false
      → (i : ℕ) × (suc i < length (map f l)) × (other (get_or (map f l) i d) ≡ other (get_or (map f l) (suc i) d))
  unfolding rising
  repeats [] r e = absurd (false≢true (sym e))
  repeats (x ∷ l) r e = let (i, b, q) = repeats_from x l r e in (i, suc-le-suc b, q)

-- along edges that increase, (state, S) never falls
edge_along : (x y : EdgeBytes) → less (edge_key x) (edge_key y) ≡ true
    → (less (x.state ∷ x.S ∷ []) (y.state ∷ y.S ∷ []) ≡ true) ⊎ (x.state ∷ x.S ∷ [] ≡ y.state ∷ y.S ∷ [])
unfolding edge_key
edge_along x y h =
    ⊎_elim
    (λ l. inl (less_lt x.state y.state _ _ l))
    (λ p. ⊎_elim
    (λ l. inl (less_eq x.state y.state _ _ p.0 ∙ less_one x.S y.S l))
    (λ q. inr (ap₂ (λ (m n : ℕ). m ∷ n ∷ []) p.0 q.0))
    (less_cons x.S y.S _ _ p.1))
    (less_cons x.state y.state _ _ h)

-- where edges increase and entries do not, there is a second entry for the same state and S
second_entry : (case : List ℕ) → rising edge_key (edge_records case) ≡ true → rising entry_key (entries_of (head case) (edge_records case)) ≡ false
    → SecondEntry case
unfolding entries_of entry_key
second_entry case r e =
    let test : EdgeBytes → Bool = λ x. ltb x.state (head case).P in
    let entry : EdgeBytes → Entry = λ x. record { control = x.state; S = x.S } in
    let (i, b, q) = repeats edge_key entry_key entry edge_along no_entry (only test (edge_records case)) (rising_only edge_key test (edge_records case) r) e in
    record { one = i; other = suc i; after = omega arith; there = b; same = entry_key_eq _ _ q }

-- where there is one, entries do not increase
entry_twice : (case : List ℕ) → SecondEntry case → rising entry_key (entries_of (head case) (edge_records case)) ≡ false
entry_twice case s =
    let es : List Entry = entries_of (head case) (edge_records case) in
    by_test (rising entry_key es)
    (λ t.
    let l : s.one < s.other = s.after in
    let b : s.other < length es = s.there in
    let z : s.one ≡ s.other = rising_once entry_key es no_entry s.one s.other t (omega arith) b (ap entry_key s.same) in
    absurd (omega arith))
    (λ t. t)

not_increasing : (case : List ℕ) → (increasing case ≡ false) ↔ NotIncreasing case
unfolding increasing
not_increasing case =
    let edges : Bool = rising edge_key (edge_records case) in
    let entries : Bool = rising entry_key (entries_of (head case) (edge_records case)) in
    let moves : Bool = rising move_key (move_records case) in
    let (p, q) = and_fails (edges && entries) moves in
    let (f, g) = and_fails edges entries in (
      λ e. by_test edges
          (λ r. ⊎_elim (λ h. ⊎_elim (λ a. inl a) (λ a. inr (inr (second_entry case r a))) (f h)) (λ h. inr (inl h)) (p e))
          (λ r. inl r),
      λ e. q (⊎_elim (λ h. inl (g (inl h))) (λ y. ⊎_elim (λ h. inr h) (λ h. inl (g (inr (entry_twice case h)))) y) e),
    )

-- ---- the tests of the files

-- one equivalence after another
both : {A B C : Type 0} → A ↔ B → B ↔ C → A ↔ C
both (f, g) (h, k) = (λ a. h (f a), λ c. g (k c))

module _ {X : Type 0} (x : X) where
  pub case_agrees : (part : X → List ℕ) → Agree (tests_on part case_tests) (case_refusals part) x
  unfolding Agree tests_on case_tests
  case_agrees part =
      let rise = both (not_true (increasing (part x))) (not_increasing (part x)) in
      let bounds = both (not_true (records_right (part x))) (bound_broken (part x)) in
      let codes = both (not_true (codes_right (codes_of (part x)))) (codes_wrong (codes_of (part x))) in (
        refl,
        not_true (case_placed (part x)),
        λ e. (refl, not_true (head_right (head (part x))), λ f. (refl, codes, λ g. (refl, bounds, λ h. (refl, rise, λ k. tt)))),
      )

  pub start_agrees : (part : X → Files) → Agree (tests_on part start_tests) (start_refusals part) x
  unfolding Agree tests_on start_tests
  start_agrees part =
      let wrong = both (not_true (start_file_right (part x))) (start_wrong (part x)) in
      (refl, not_true (start_placed (part x).start), λ e. (refl, wrong, λ f. tt))

  -- ---- the lines of the case and of the start file, and then more

  pub case_returned : (part : X → List ℕ) (more : List (Refusal X)) → (case_refusal (part x) ≡ 0 → ⊥)
      → Returned (case_refusals part ++ more) x (case_refusal (part x))
  unfolding case_refusal
  case_returned part more h =
      let e = first_hit_tests_on part case_tests x in
      subst (Returned (case_refusals part ++ more) x) e (returned_stays (tests_on part case_tests) (case_refusals part) more x (case_agrees part) (λ z. h (sym e ∙ z)))

  pub past_case : (part : X → List ℕ) (more : List (Refusal X)) (n : ℕ) → case_refusal (part x) ≡ 0 → Returned more x n
      → Returned (case_refusals part ++ more) x n
  unfolding case_refusal
  past_case part more n h =
      returned_past (tests_on part case_tests) (case_refusals part) more x n (case_agrees part) (numbered_tests_on part case_tests ∙ case_numbered)
      (first_hit_tests_on part case_tests x ∙ h)

  start_returned : (part : X → Files) (more : List (Refusal X)) → (start_refusal (part x) ≡ 0 → ⊥)
      → Returned (start_refusals part ++ more) x (start_refusal (part x))
  unfolding start_refusal
  start_returned part more h =
      let e = first_hit_tests_on part start_tests x in
      subst (Returned (start_refusals part ++ more) x) e (returned_stays (tests_on part start_tests) (start_refusals part) more x (start_agrees part) (λ z. h (sym e ∙ z)))

  past_start : (part : X → Files) (more : List (Refusal X)) (n : ℕ) → start_refusal (part x) ≡ 0 → Returned more x n
      → Returned (start_refusals part ++ more) x n
  unfolding start_refusal
  past_start part more n h =
      returned_past (tests_on part start_tests) (start_refusals part) more x n (start_agrees part) (numbered_tests_on part start_tests ∙ start_numbered)
      (first_hit_tests_on part start_tests x ∙ h)

  -- ---- the lines of both files, and then more

  pub files_case : (case : X → List ℕ) (files : X → Files) (more : List (Refusal X)) → (case_refusal (case x) ≡ 0 → ⊥)
      → Returned (case_refusals case ++ (start_refusals files ++ more)) x (case_refusal (case x))
  files_case case files more bad = case_returned case (start_refusals files ++ more) bad

  pub files_start : (case : X → List ℕ) (files : X → Files) (more : List (Refusal X)) → case_refusal (case x) ≡ 0 → (start_refusal (files x) ≡ 0 → ⊥)
      → Returned (case_refusals case ++ (start_refusals files ++ more)) x (start_refusal (files x))
  files_start case files more sound bad = past_case case (start_refusals files ++ more) _ sound (start_returned files more bad)

  pub past_files : (case : X → List ℕ) (files : X → Files) (more : List (Refusal X)) (n : ℕ) → case_refusal (case x) ≡ 0 → start_refusal (files x) ≡ 0
      → Returned more x n → Returned (case_refusals case ++ (start_refusals files ++ more)) x n
  past_files case files more n sound start r = past_case case (start_refusals files ++ more) n sound (past_start files more n start r)

-- ---- one line

module _ {X : Type 0} (r : Refusal X) (more : List (Refusal X)) (x : X) where
  pub applies_here : r.applies x → Returned (r ∷ more) x r.number
  unfolding Returned
  applies_here a = inl (a, refl)

  pub applies_not : (n : ℕ) → (r.applies x → ⊥) → Returned more x n → Returned (r ∷ more) x n
  unfolding Returned
  applies_not n a b = inr (a, b)

pub none_applies : {X : Type 0} (x : X) → Returned [] x 0
unfolding Returned
none_applies x = refl
