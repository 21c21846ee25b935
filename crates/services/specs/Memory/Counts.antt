-- What holds of the numbers of moves: one move more, rows by number, and the largest count.
-- Assumes nothing.
use Rattle.std.specs.Prelude.{ℕ, zero, suc, ◌+◌, ◌*◌, ◌≤◌, ◌<◌, max, ◌≡◌, refl, ◌⊎◌, List, [], ◌∷◌, ◌++◌, length, get_or, eqb, leb}
use Rattle.std.proofs.Common.{ap, sym, ◌∙◌, inl, inr, add-zero, add-suc, suc-add, le_trans, le_antisymm, arith, length-append, eq-eqb, ne_eqb, leb-true, leb-false}
use Rattle.std.proofs.Math.Nat.{le-max_left, le-max_right, max-eq_left, max-eq_right, max-le, zero-max, max-zero}
use Rattle.words.specs.Lists.{each, only}
use Rattle.words.specs.Lists.Laws.{only_yes, only_no, only_append, length_only}
use Rattle.words.specs.Laws.Tests.{by_test}
use Rattle.automata.specs.Automaton.{Move, Entry, no_move}
use Rattle.services.specs.Memory.{move_count, Counted, with_counts, entry_words, entry_width, largest}

-- ---- the count by walking

-- a move more of the state
pub count_more : (ms : List Move) (m : Move) (r : ℕ) → m.state ≡ r → move_count (ms ++ (m ∷ [])) r ≡ move_count ms r + 1
unfolding move_count only
count_more ms m r e =
    ap length
    (only_append (λ (x : Move). eqb x.state r) ms (m ∷ [])
    ∙ ap (λ (l : List Move). only (λ (x : Move). eqb x.state r) ms ++ l) (only_yes (λ (x : Move). eqb x.state r) m [] (eq-eqb m.state r e)))
    ∙ length-append (only (λ (x : Move). eqb x.state r) ms) (m ∷ [])

-- a move more of another state
pub count_same : (ms : List Move) (m : Move) (r : ℕ) → (m.state ≡ r → ⊥) → move_count (ms ++ (m ∷ [])) r ≡ move_count ms r
unfolding move_count only
count_same ms m r d =
    ap length
    (only_append (λ (x : Move). eqb x.state r) ms (m ∷ [])
    ∙ ap (λ (l : List Move). only (λ (x : Move). eqb x.state r) ms ++ l) (only_no (λ (x : Move). eqb x.state r) m [] (ne_eqb m.state r d)))
    ∙ length-append (only (λ (x : Move). eqb x.state r) ms) []
    ∙ add-zero (length (only (λ (x : Move). eqb x.state r) ms))

pub count_few : (ms : List Move) (r : ℕ) → move_count ms r ≤ length ms
unfolding move_count
count_few ms r = length_only (λ (x : Move). eqb x.state r) ms

-- no move of the state
pub count_none : (ms : List Move) (r : ℕ) → ((i : ℕ) → i < length ms → (get_or ms i no_move).state ≡ r → ⊥) → move_count ms r ≡ 0
unfolding move_count only
count_none [] r h = refl
count_none (m ∷ ms) r h =
    ap length (only_no (λ (x : Move). eqb x.state r) m ms (ne_eqb m.state r (h 0 (omega arith))))
    ∙ count_none ms r (λ i l. h (suc i) (omega arith))

-- ---- the records of the entry table, by number

pub with_counts_at : (ms : List Move) (r : ℕ) (es : List Entry) (i : ℕ) (c : Counted) (e : Entry) → i < length es
    → get_or (with_counts ms r es) i c ≡ record { entry = get_or es i e; moves = move_count ms (r + i) }
unfolding with_counts
with_counts_at ms r [] i c e h = absurd (omega arith)
with_counts_at ms r (x ∷ es) zero c e h = ap (λ (k : ℕ). record { entry = x; moves = move_count ms k }) (sym (add-zero r))
with_counts_at ms r (x ∷ es) (suc i) c e h =
    with_counts_at ms (suc r) es i c e (omega arith)
    ∙ ap (λ (k : ℕ). record { entry = get_or es i e; moves = move_count ms k }) (suc-add r i ∙ sym (add-suc r i))

-- the third word of a record
pub third_word_lem : (cs : List Counted) (i : ℕ) (d : Counted) → i < length cs → get_or (each cs entry_words) (i * entry_width + 2) 0 ≡ (get_or cs i d).moves
unfolding each entry_words
third_word_lem [] i d h = absurd (omega arith)
third_word_lem (c ∷ cs) zero d h = refl
third_word_lem (c ∷ cs) (suc i) d h =
    let e : suc i * entry_width + 2 ≡ suc (suc (suc (i * entry_width + 2))) = omega arith in
    ap (λ (k : ℕ). get_or (each (c ∷ cs) entry_words) k 0) e ∙ third_word_lem cs i d (omega arith)

-- ---- the largest count

max_assoc : (a b c : ℕ) → max a (max b c) ≡ max (max a b) c
max_assoc a b c =
    le_antisymm
    (max-le (le_trans (le-max_left a b) (le-max_left (max a b) c)) (max-le (le_trans (le-max_right a b) (le-max_left (max a b) c)) (le-max_right (max a b) c)))
    (max-le (max-le (le-max_left a (max b c)) (le_trans (le-max_left b c) (le-max_right a (max b c)))) (le_trans (le-max_right b c) (le-max_right a (max b c))))

-- a record more
pub largest_more : (cs : List Counted) (c : Counted) → largest (cs ++ (c ∷ [])) ≡ max (largest cs) c.moves
unfolding largest
largest_more [] c = max-zero c.moves ∙ sym (zero-max c.moves)
largest_more (x ∷ cs) c = ap (max x.moves) (largest_more cs c) ∙ max_assoc x.moves (largest cs) c.moves

-- no entry has more
pub largest_above : (cs : List Counted) (i : ℕ) (d : Counted) → i < length cs → (get_or cs i d).moves ≤ largest cs
unfolding largest
largest_above [] i d h = absurd (omega arith)
largest_above (x ∷ cs) zero d h = le-max_left x.moves (largest cs)
largest_above (x ∷ cs) (suc i) d h = le_trans (largest_above cs i d (omega arith)) (le-max_right x.moves (largest cs))

-- some entry has as many, unless it is 0
pub largest_reached : (cs : List Counted) (d : Counted) → (largest cs ≡ 0) ⊎ ((i : ℕ) × (i < length cs) × ((get_or cs i d).moves ≡ largest cs))
unfolding largest
largest_reached [] d = inl refl
largest_reached (x ∷ cs) d =
    by_test (leb (largest cs) x.moves)
    (λ e. inr (0, omega arith, sym (max-eq_left (leb-true (largest cs) x.moves e))))
    (λ e. let h : x.moves < largest cs = leb-false (largest cs) x.moves e in later (max-eq_right (omega arith)) (largest_reached cs d))
  where
    later : max x.moves (largest cs) ≡ largest cs → (largest cs ≡ 0) ⊎ ((i : ℕ) × (i < length cs) × ((get_or cs i d).moves ≡ largest cs))
        → (largest (x ∷ cs) ≡ 0) ⊎ ((i : ℕ) × (i < length (x ∷ cs)) × ((get_or (x ∷ cs) i d).moves ≡ largest (x ∷ cs)))
    later m (inl e) = inl (m ∙ e)
    later m (inr (i, l, e)) = inr (suc i, omega arith, e ∙ sym m)
