-- Results that an automaton holds, by the number of the move that stands for each, and the results of derivations. The table before a
-- move's round: the whole table extends it, and its moves have smaller numbers.
-- Assumes nothing.
use Rattle.std.specs.Prelude.{ℕ, ◌≤◌, ◌<◌, min, true, ◌≡◌, refl, length, take, drop, leb}
use Rattle.std.proofs.Math.Bool.{◌&&◌}
use Rattle.std.proofs.Common.{ap, ap₂, sym, ◌∙◌, subst, arith, length-take, take-append-drop, leb-true, le-leb}
use mathlib.Core.List.Memᴰ
use mathlib.Core.List.{List, [], ◌∷◌, ◌++◌, Memᴰ}
use Rattle.std.proofs.Math.Seq.{take-append_seam}
use Rattle.std.proofs.lemmas.Bool.{lt-leb}
use Rattle.words.specs.Laws.Tests.{by_test, and_left, and_right}
use Rattle.words.specs.Order.Laws.{same_eq, eq_same}
use Rattle.words.specs.Lists.Laws.{some_of_in, some_of_out}
use Rattle.stacks.specs.System.{Rule}
use Rattle.automata.specs.Automaton.{Automaton, move_at, entry_of}
use Rattle.automata.specs.Automaton.Laws.{EntryMove, EntryIs, move_at_in, in_move_at, entry_of_in, entry_of_out, entry_at_control, entry_move_at, entry_move_set}
use Rattle.automata.specs.Derivation.{Result, result_key, result_of, Derivation, derivations}
use Rattle.automata.proofs.Derivation.Laws.{result_key_eq}
use Rattle.automata.specs.Saturation.{is_result, held, results, Size, size_of, Saturated, up_to, last_up_to, before}
use Rattle.automata.specs.Facts.{Extends}
use Rattle.automata.specs.Facts.Laws.{move_at_kept, entry_move_kept}

-- ---- the move that stands for a result

-- Move i is a move of entry [p,S] with the result's symbol, order and sets.
pub record StandsFor (A : Automaton) (i : ℕ) (x : Result) : Type 0 where
  pub move : EntryMove A x.control x.S x.symbol i
  pub order_is : (move_at A i).order ≡ x.order
  pub B-is : (move_at A i).B ≡ x.B
  pub R-is : (move_at A i).R ≡ x.R

module _ (A : Automaton) {i : ℕ} {x : Result} (h : StandsFor A i x) where
  pub stands_result : result_of A (move_at A i) ≡ x
  unfolding result_of
  stands_result =
      λ k. record {
        control = entry_at_control A (move_at A i).state (entry_move_at A h.move) k;
        S = entry_move_set A h.move k;
        symbol = h.move.symbol_is k;
        order = h.order_is k;
        B = h.B-is k;
        R = h.R-is k;
      }

  -- a result is held exactly if a move stands for it
  pub stands_held : held A x ≡ true
  unfolding held is_result
  stands_held =
      some_of_in (is_result A x) (move_at_in A i h.move.below)
      (ap₂ ◌&&◌
      (ap (entry_of A x.control) h.move.state_is ∙ entry_of_in A h.move.entry_is)
      (eq_same (result_key (result_of A (move_at A i))) (result_key x) (ap result_key stands_result)))

pub held_stands : (A : Automaton) (x : Result) → held A x ≡ true → (i : ℕ) × StandsFor A i x
unfolding held is_result result_of
held_stands A x h =
    let (m, j, t) = some_of_out (is_result A x) A.moves h in
    let (i, l, k) = in_move_at A j in
    let (e, q, y) = entry_of_out A x.control m.state (and_left (entry_of A x.control m.state) _ t) in
    let z : result_of A m ≡ x = result_key_eq (result_of A m) x (same_eq _ _ (and_right (entry_of A x.control m.state) _ t)) in (
      i,
      record {
        move = record {
          below = l;
          symbol_is = rw k (ap (λ (r : Result). r.symbol) z);
          entry = e;
          state_is = rw k q;
          entry_is = subst (λ (S : ℕ). EntryIs A x.control S e) (ap (λ (r : Result). r.S) z) y;
        };
        order_is = rw k (ap (λ (r : Result). r.order) z);
        B-is = rw k (ap (λ (r : Result). r.B) z);
        R-is = rw k (ap (λ (r : Result). r.R) z);
      },
    )

pub stands_kept : {A C : Automaton} {i : ℕ} {x : Result} → Extends A C → StandsFor A i x → StandsFor C i x
stands_kept {i = i} e h =
    let k = move_at_kept e i h.move.below in
    record {
      move = entry_move_kept e h.move;
      order_is = rw k h.order_is;
      B-is = rw k h.B-is;
      R-is = rw k h.R-is;
    }

-- a result that is held stays held
pub held_kept : {A C : Automaton} (x : Result) → Extends A C → held A x ≡ true → held C x ≡ true
held_kept {A} {C} x e h = let (i, s) = held_stands A x h in stands_held C (stands_kept e s)

-- ---- the results of all derivations

module _ (rules : List Rule) (A : Automaton) where
  pub results_in : {d : Derivation} → Memᴰ d (derivations A rules) → Memᴰ d.result (results rules A)
  unfolding results
  results_in j = Memᴰ.map (λ (d : Derivation). d.result) j

  pub results_out : {x : Result} → Memᴰ x (results rules A) → (d : Derivation) × Memᴰ d (derivations A rules) × (d.result ≡ x)
  unfolding results
  results_out j = Memᴰ.of_map (λ (d : Derivation). d.result) (derivations A rules) j

-- ---- the first so many moves and entries

pub up_to_extends : (z : Size) (A : Automaton) → Extends (up_to z A) A
unfolding up_to
up_to_extends z A =
    record {
      same_J = refl;
      same_final1 = refl;
      same_final2 = refl;
      same_inner = refl;
      more_entries = drop z.entries A.entries;
      entries_are = sym (take-append-drop z.entries A.entries);
      more_moves = drop z.moves A.moves;
      moves_are = sym (take-append-drop z.moves A.moves);
    }

-- an automaton is that part of each extension of it that has its size
pub extends_up_to : {A C : Automaton} → Extends A C → up_to (size_of A) C ≡ A
unfolding up_to size_of
extends_up_to {A} {C} x =
    let e : take (length A.entries) C.entries ≡ A.entries =
    ap (take (length A.entries)) x.entries_are ∙ take-append_seam A.entries x.more_entries in
    let m : take (length A.moves) C.moves ≡ A.moves =
    ap (take (length A.moves)) x.moves_are ∙ take-append_seam A.moves x.more_moves in
    λ i. record { J = x.same_J i; final1 = x.same_final1 i; final2 = x.same_final2 i; inner = x.same_inner i; entries = e i; moves = m i }

-- ---- the last size that has no more than i moves

pub last_up_to_yes : (z y : Size) (ys : List Size) (i : ℕ) → y.moves ≤ i → last_up_to z (y ∷ ys) i ≡ last_up_to y ys i
unfolding last_up_to
last_up_to_yes z y ys i h = rw (last_up_to, le-leb y.moves i h)

pub last_up_to_no : (z y : Size) (ys : List Size) (i : ℕ) → i < y.moves → last_up_to z (y ∷ ys) i ≡ z
unfolding last_up_to
last_up_to_no z y ys i h = rw (last_up_to, lt-leb y.moves i h)

pub last_up_to_past : (z : Size) (xs : List Size) (y : Size) (ys : List Size) (i : ℕ) → ((x : Size) → Memᴰ x xs → x.moves ≤ i) → y.moves ≤ i
    → last_up_to z (xs ++ y ∷ ys) i ≡ last_up_to y ys i
last_up_to_past z [] y ys i h l = last_up_to_yes z y ys i l
last_up_to_past z (x ∷ xs) y ys i h l =
    last_up_to_yes z x (xs ++ y ∷ ys) i (h x (Memᴰ.head refl)) ∙ last_up_to_past x xs y ys i (λ w j. h w (Memᴰ.tail j)) l

pub last_up_to_moves : (z : Size) (zs : List Size) (i : ℕ) → z.moves ≤ i → (last_up_to z zs i).moves ≤ i
unfolding last_up_to
last_up_to_moves z [] i h = h
last_up_to_moves z (y ∷ ys) i h = by_test (leb y.moves i)
    (λ t. rw (last_up_to, t) (last_up_to_moves y ys i (leb-true _ _ t)))
    (λ t. rw (last_up_to, t) h)

-- ---- the table before a move's round

pub before_extends : (T : Saturated) (i : ℕ) → Extends (before T i) T.table
unfolding before
before_extends T i = up_to_extends (last_up_to (record { moves = 0; entries = 0 }) T.sizes i) T.table

-- so each of its moves has a smaller number than i
pub before_small : (T : Saturated) (i : ℕ) → length (before T i).moves ≤ i
unfolding before up_to
before_small T i =
    let z : Size = last_up_to (record { moves = 0; entries = 0 }) T.sizes i in
    let l : z.moves ≤ i = last_up_to_moves (record { moves = 0; entries = 0 }) T.sizes i (omega arith) in
    let e : length (before T i).moves ≡ min z.moves (length T.table.moves) = length-take z.moves T.table.moves in
    omega arith
