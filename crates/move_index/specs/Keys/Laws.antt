-- Keys are below 2,048, moves that are the same are equal, and chains of moves are chains of equal moves.
-- Assumes nothing.
use Rattle.std.specs.Prelude.{ℕ, ◌<◌, Bool, true, false, ◌&&◌, ◌≡◌, refl, List, eqb}
use Rattle.std.proofs.Common.{ap, sym, ◌∙◌, arith, eqb-true, eq-eqb}
use Rattle.words.specs.Laws.Tests.{and_left, and_right}
use Rattle.automata.specs.Automaton.{Move}
use Rattle.chains.specs.Chains.Laws.{chained_same}
use Rattle.tables.specs.Rows.{row_at}
use Rattle.tables.specs.Layouts.{move_row}
use Rattle.move_index.specs.Keys.{state_key, words_key, same_move, ByState, ByWords}

-- ---- keys

pub state_below : (r a : ℕ) → state_key r a < 2048
unfolding state_key
state_below r a = omega arith

-- ---- moves compared

pub same_moves : (m n : Move) → same_move m n ≡ true → m ≡ n
unfolding same_move
same_moves m n e =
    let a : Bool = eqb m.state n.state in
    let b : Bool = a && eqb m.symbol n.symbol in
    let c : Bool = b && eqb m.order n.order in
    let d : Bool = c && eqb m.B n.B in
    let in-d : d ≡ true = and_left d _ e in
    let in_c : c ≡ true = and_left c _ in-d in
    let in_b : b ≡ true = and_left b _ in_c in
    let state : m.state ≡ n.state = eqb-true _ _ (and_left a _ in_b) in
    let symbol : m.symbol ≡ n.symbol = eqb-true _ _ (and_right a _ in_b) in
    let order : m.order ≡ n.order = eqb-true _ _ (and_right b _ in_c) in
    let B : m.B ≡ n.B = eqb-true _ _ (and_right c _ in-d) in
    let R : m.R ≡ n.R = eqb-true _ _ (and_right d _ e) in
    λ i. record { state = state i; symbol = symbol i; order = order i; B = B i; R = R i }

-- moves that agree in all words but the last
pub moves_last : (m n : Move) → m.state ≡ n.state → m.symbol ≡ n.symbol → m.order ≡ n.order → m.B ≡ n.B → eqb m.R n.R ≡ same_move m n
unfolding same_move
moves_last m n s a o b =
    rw (same_move, eq-eqb m.state n.state s, eq-eqb m.symbol n.symbol a, eq-eqb m.order n.order o, eq-eqb m.B n.B b)

pub same_self : (m : Move) → same_move m m ≡ true
same_self m = sym (moves_last m m refl refl refl refl) ∙ eq-eqb m.R m.R refl

-- ---- tables whose first moves are equal

module _ (n : ℕ) (moves moves' t : List ℕ) (h : (i : ℕ) → i < n → row_at move_row moves i ≡ row_at move_row moves' i) where
  pub by_state_same : ByState n moves t → ByState n moves' t
  by_state_same c = chained_same _ _ n t (λ i l. ap (λ (m : Move). state_key m.state m.symbol) (h i l)) c

  pub by_words_same : ByWords n moves t → ByWords n moves' t
  by_words_same c = chained_same _ _ n t (λ i l. ap words_key (h i l)) c

-- ---- moves compared field by field

and_nested : (a b c d e : Bool) → (a && b && c && d && e) ≡ a && (b && (c && (d && e)))
and_nested false b c d e = refl
and_nested true false c d e = refl
and_nested true true false d e = refl
and_nested true true true d e = refl

pub same_fields : (m n : Move) → same_move m n
    ≡ eqb m.state n.state && (eqb m.symbol n.symbol && (eqb m.order n.order && (eqb m.B n.B && eqb m.R n.R)))
unfolding same_move
same_fields m n = and_nested (eqb m.state n.state) (eqb m.symbol n.symbol) (eqb m.order n.order) (eqb m.B n.B) (eqb m.R n.R)
