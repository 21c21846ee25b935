-- Adding results: what was there is kept, each result is held afterwards, and each new move is one of the results.
-- Assumes nothing.
use Rattle.std.specs.Prelude.{ℕ, suc, ◌+◌, ◌≤◌, ◌<◌, true, false, not, ◌≡◌, refl, length, get_or, eqb}
use Rattle.std.proofs.Common.{ap, sym, ◌∙◌, subst, add-zero, add-one, arith, length-append, eqb-true}
use Rattle.std.proofs.Math.Option.{some}
use mathlib.Core.List.Memᴰ
use mathlib.Core.List.{List, [], ◌∷◌, ◌++◌, Memᴰ}
use Rattle.std.proofs.Math.Seq.{get_or-append_seam}
use Rattle.std.proofs.lemmas.Bool.{eqb-false, not-true}
use Rattle.words.specs.Laws.Tests.{by_test}
use Rattle.words.specs.Lists.{only}
use Rattle.words.specs.Lists.Laws.{only_in, only_out, only_no, length_zero}
use Rattle.words.specs.Order.{sorted}
use Rattle.words.specs.Order.Laws.{sorted_out, sorted_keeps}
use Rattle.automata.specs.Automaton.{Automaton, Move, no_move, move_at, entry_at}
use Rattle.automata.specs.Automaton.Laws.{entry, EntryIs, get_entry_is, entry_is_at}
use Rattle.automata.specs.Derivation.{Result, result_key}
use Rattle.automata.proofs.Derivation.Laws.{result_key_eq}
use Rattle.automata.specs.Saturation.{held, entry_number, add, add_all, extend}
use Rattle.automata.proofs.Saturation.Laws.{StandsFor, stands_held, stands_kept, held_kept}
use Rattle.automata.specs.Facts.{Extends}
use Rattle.automata.specs.Facts.Laws.{extends_refl, extends_trans}
use Rattle.rounds.specs.Entries.{with_entry_appends, entry_number_at}

-- ---- what was there is kept

-- the move that adding result x appends
unfoldable pub new_move : Automaton → Result → Move
new_move A x =
    record {
      state = A.J + entry_number x.control x.S A.entries;
      symbol = x.symbol;
      order = x.order;
      B = x.B;
      R = x.R;
    }

pub add_extends : (A : Automaton) (x : Result) → Extends A (add A x)
unfolding add new_move
add_extends A x =
    let (more, e) = with_entry_appends x.control x.S A.entries in
    record {
      same_J = refl;
      same_final1 = refl;
      same_final2 = refl;
      same_inner = refl;
      more_entries = more;
      entries_are = e;
      more_moves = new_move A x ∷ [];
      moves_are = refl;
    }

pub add_all_extends : (A : Automaton) (xs : List Result) → Extends A (add_all A xs)
unfolding add_all
add_all_extends A [] = extends_refl A
add_all_extends A (x ∷ xs) = extends_trans (add_extends A x) (add_all_extends (add A x) xs)

-- the results that `extend` adds, one after another
abbrev pub added : Automaton → List Result → List Result
added A xs = sorted result_key (only (λ x. not (held A x)) xs)

-- they are those that are not yet held
pub added_in : (A : Automaton) {xs : List Result} {x : Result} → Memᴰ x xs → held A x ≡ false → Memᴰ x (added A xs)
added_in A j h = sorted_keeps result_key result_key_eq (only_in (λ y. not (held A y)) j (ap not h))

pub added_out : (A : Automaton) (xs : List Result) {x : Result} → Memᴰ x (added A xs) → Memᴰ x xs × (held A x ≡ false)
added_out A xs {x} j =
    let (k, n) = only_out (λ y. not (held A y)) xs (sorted_out result_key (only (λ y. not (held A y)) xs) j) in
    (k, not-true (held A x) n)

pub extend_extends : (A : Automaton) (xs : List Result) → Extends A (extend A xs)
unfolding extend
extend_extends A xs = add_all_extends A (added A xs)

pub add_moves : (A : Automaton) (x : Result) → (add A x).moves ≡ A.moves ++ new_move A x ∷ []
unfolding add new_move
add_moves A x = refl

pub add_length : (A : Automaton) (x : Result) → length (add A x).moves ≡ suc (length A.moves)
add_length A x = ap length (add_moves A x) ∙ length-append A.moves (new_move A x ∷ []) ∙ add-one (length A.moves)

pub add_all_length : (A : Automaton) (xs : List Result) → length (add_all A xs).moves ≡ length A.moves + length xs
unfolding add_all
add_all_length A [] = sym (add-zero (length A.moves))
add_all_length A (x ∷ xs) =
    let e = add_length A x in
    let h = add_all_length (add A x) xs in
    omega arith

-- ---- each result is held afterwards

pub add_entry_is : (A : Automaton) (x : Result) → EntryIs (add A x) x.control x.S (entry_number x.control x.S A.entries)
unfolding add
add_entry_is A x = get_entry_is (add A x) (entry_number_at x.control x.S A.entries)

pub add_entry : (A : Automaton) (x : Result) → entry_at (add A x) (new_move A x).state ≡ some (entry x.control x.S)
unfolding add new_move
add_entry A x = entry_is_at (add A x) (add_entry_is A x)

-- the move that is appended stands for the result
pub add_stands : (A : Automaton) (x : Result) → StandsFor (add A x) (length A.moves) x
unfolding move_at add new_move
add_stands A x =
    let e : move_at (add A x) (length A.moves) ≡ new_move A x =
    ap (λ (l : List Move). get_or l (length A.moves) no_move) (add_moves A x) ∙ get_or-append_seam A.moves (new_move A x) [] no_move in
    record {
      move = record {
        below = let l = add_length A x in omega arith;
        symbol_is = ap (λ (m : Move). m.symbol) e;
        entry = entry_number x.control x.S A.entries;
        state_is = ap (λ (m : Move). m.state) e;
        entry_is = add_entry_is A x;
      };
      order_is = ap (λ (m : Move). m.order) e;
      B-is = ap (λ (m : Move). m.B) e;
      R-is = ap (λ (m : Move). m.R) e;
    }

pub add_held : (A : Automaton) (x : Result) → held (add A x) x ≡ true
add_held A x = stands_held (add A x) (add_stands A x)

pub add_all_held : {x : Result} (A : Automaton) {xs : List Result} → Memᴰ x xs → held (add_all A xs) x ≡ true
unfolding add_all
add_all_held {x = x} A (Memᴰ.head {x = y} {xs = xs} e) = held_kept x (add_all_extends (add A y) xs) (rw e (add_held A y))
add_all_held A (Memᴰ.tail {x = y} j) = add_all_held (add A y) j

-- after `extend` every one of the results is held
pub extend_holds : (A : Automaton) {xs : List Result} {x : Result} → Memᴰ x xs → held (extend A xs) x ≡ true
unfolding extend
extend_holds A {xs} {x} j = by_test (held A x)
    (λ h. held_kept x (extend_extends A xs) h)
    (λ h. add_all_held A (added_in A j h))

-- ---- each new move is one of the results

pub add_all_new : (A : Automaton) (xs : List Result) (i : ℕ) → length A.moves ≤ i → i < length (add_all A xs).moves
    → (x : Result) × Memᴰ x xs × StandsFor (add_all A xs) i x
unfolding add_all
add_all_new A [] i l h = absurd (omega arith)
add_all_new A (x ∷ xs) i l h = by_test (eqb i (length A.moves))
    (λ t.
    let e : length A.moves ≡ i = sym (eqb-true i (length A.moves) t) in
    (x, Memᴰ.head refl, stands_kept (add_all_extends (add A x) xs) (subst (λ (k : ℕ). StandsFor (add A x) k x) e (add_stands A x))))
    (λ t.
    let n : i ≡ length A.moves → ⊥ = eqb-false i (length A.moves) t in
    let e : length (add A x).moves ≡ suc (length A.moves) = add_length A x in
    let (y, j, s) = add_all_new (add A x) xs i (omega arith) h in
    (y, Memᴰ.tail j, s))

-- a move that `extend` adds is one of the results, and one that was not held
pub extend_new : (A : Automaton) (xs : List Result) (i : ℕ) → length A.moves ≤ i → i < length (extend A xs).moves
    → (x : Result) × Memᴰ x xs × (held A x ≡ false) × StandsFor (extend A xs) i x
unfolding extend
extend_new A xs i l h =
    let (x, j, s) = add_all_new A (added A xs) i l h in
    let (k, n) = added_out A xs j in
    (x, k, n, s)

-- ---- nothing to add

-- where `extend` appends no move, it changes nothing and all results were held
pub extend_nothing : (A : Automaton) (xs : List Result) → length (extend A xs).moves ≡ length A.moves
    → (extend A xs ≡ A) × ((x : Result) → Memᴰ x xs → held A x ≡ true)
unfolding extend add_all
extend_nothing A xs e =
    let ys : List Result = added A xs in
    let l : length (add_all A ys).moves ≡ length A.moves + length ys = add_all_length A ys in
    let z : ys ≡ [] = length_zero ys (omega arith) in (
      ap (add_all A) z,
      λ x j. by_test (held A x) (λ h. h)
          (λ h. absurd (Memᴰ.not-nil (subst (λ (l : List Result). Memᴰ x l) z (added_in A j h)))),
    )

-- where all results are held, `extend` changes nothing
pub extend_held : (A : Automaton) (xs : List Result) → ((x : Result) → Memᴰ x xs → held A x ≡ true) → extend A xs ≡ A
unfolding extend add_all only sorted
extend_held A xs h = ap (λ (l : List Result). add_all A (sorted result_key l)) (go xs h)
  where
    go : (l : List Result) → ((x : Result) → Memᴰ x l → held A x ≡ true) → only (λ y. not (held A y)) l ≡ []
    go [] h = refl
    go (x ∷ l) h = only_no (λ y. not (held A y)) x l (ap not (h x (Memᴰ.head refl))) ∙ go l (λ y j. h y (Memᴰ.tail j))
