-- A state as nine words and back, and the comparison of two states.
-- Assumes nothing.
use Rattle.std.specs.Prelude.{◌≡◌, ℕ, ◌+◌, ◌*◌, ◌/◌, ◌%◌, ◌<◌, ◌≤◌, true, List, [], ◌∷◌, length, ◌==◌, ◌&&◌, slice_index, refl}
use Rattle.std.proofs.Common.{ap, sym, ◌∙◌, mod-lt, arith}
use Rattle.words.specs.Laws.Tests.{by_test}
use Rattle.words.specs.Order.{same}
use Rattle.words.specs.Order.Laws.{same_eq}
use Rattle.memo_table.specs.declared.State.{State}
use Rattle.memo_table.specs.States.{state_words, state_from}

pub state_length : (x : State) → length (state_words x) ≡ 9
unfolding state_words
state_length x = refl

pub state_back : (x : State) → state_from (λ j. slice_index (state_words x) j) ≡ x
unfolding state_words
state_back x = refl

pub state_same : (f g : ℕ → ℕ) → ((j : ℕ) → j < 9 → f j ≡ g j) → state_from f ≡ state_from g
state_same f g h = λ i. record {
  kind = h 0 (omega arith) i;
  control = h 1 (omega arith) i;
  symbol = h 2 (omega arith) i;
  s = h 3 (omega arith) i;
  left = h 4 (omega arith) i;
  named = h 5 (omega arith) i;
  order = h 6 (omega arith) i;
  b = h 7 (omega arith) i;
  r = h 8 (omega arith) i;
}

-- ---- states compared by their words

-- states with the same words are one
pub same_states : (x y : State) → same (state_words x) (state_words y) ≡ true → x ≡ y
same_states x y e =
    sym (state_back x)
    ∙ ap (λ (l : List ℕ). state_from (λ j. slice_index l j)) (same_eq (state_words x) (state_words y) e)
    ∙ state_back y

same_first : (v w : ℕ) (vs ws : List ℕ) → same (v ∷ vs) (w ∷ ws) ≡ ((v == w) && same vs ws)
unfolding same
same_first v w vs ws = by_test (v == w) (λ e. rw (same, e)) (λ e. rw (same, e))

same_one : (v w : ℕ) → same (v ∷ []) (w ∷ []) ≡ (v == w)
unfolding same
same_one v w = by_test (v == w) (λ e. rw (same, e)) (λ e. rw (same, e))

-- states are compared field by field
pub same_fields : (x y : State) → ((x.kind == y.kind) && ((x.control == y.control) && ((x.symbol == y.symbol) && ((x.s == y.s) && ((x.left == y.left)
    && ((x.named == y.named) && ((x.order == y.order) && ((x.b == y.b) && (x.r == y.r))))))))) ≡ same (state_words x) (state_words y)
unfolding state_words
same_fields x y =
    sym (rw (same_first, same_first, same_first, same_first, same_first, same_first, same_first, same_first, same_one) refl)

-- ---- places

-- a number modulo the number of rows is a row
pub row_lent : (h n : ℕ) → 9 ≤ n → h % (n / 9) * 9 + 9 ≤ n
row_lent h n b =
    let r : 0 < n / 9 = omega arith in
    let l : h % (n / 9) < n / 9 = mod-lt h r in
    omega arith
