-- A row as the code comes to it: what a move adds, and the row after one move or edge more.
-- Assumes nothing.
use Rattle.std.specs.Prelude.{ℕ, ◌+◌, ◌*◌, ◌≤◌, ◌<◌, Bool, true, false, ◌≡◌, refl, List, length, get_or, take, eqb}
use Rattle.std.proofs.Math.Bool.{and-true}
use Rattle.std.proofs.Math.Path.{ap}
use Rattle.std.proofs.Common.{ap₂, sym, ◌∙◌, subst, arith, eq-eqb, ne_eqb}
use Rattle.words.specs.Laws.Tests.{by_test}
use Rattle.words.specs.Lists.{places}
use Rattle.replies.specs.declared.Acceptance.{Acceptance}
use Rattle.replies.specs.declared.Acceptance.TheVariants.{Since}
use Rattle.replies.specs.Numbers.{answer_word}
use Rattle.automata.specs.Automaton.{Move, Edge, no_move, no_edge}
use Rattle.automata.specs.Saturation.{Size, round_of}
use Rattle.rounds.specs.RoundOf.{round_of_grows}
use Rattle.rounds.specs.Won.{later, earliest, move_round, edge_round, symbol_round, above_round}
use Rattle.acceptance_words.specs.Rows.{round_in, with_earlier}
use Rattle.acceptance_words.specs.Rows.Turns.{Answers}
use Rattle.acceptance.specs.Put.{with_move, RowZero, RowPut}
use Rattle.acceptance.specs.Put.Laws.{among, among_none, row_none, row_same, row_below, row_yes, row_no, row_all}

-- a round
pub since_is : (r : ℕ) → r < 65535 → Answers (Since r) (Since r)
unfolding answer_word
since_is r l = (refl, omega arith)

-- ---- what a move adds

module _ (rounds : List ℕ) (i round a k u s : ℕ) (m : Move) where
  with_yes : eqb m.symbol a ≡ true
      → with_move rounds i round a k u s m ≡ with_earlier rounds i m.state (later (Since round) (move_round k (round_in rounds u) (round_in rounds s) m))
  unfolding with_move
  with_yes e = rw (with_move, e)

  with_no : eqb m.symbol a ≡ false → with_move rounds i round a k u s m ≡ rounds
  unfolding with_move
  with_no e = rw (with_move, e)

  pub move_reads : {parts won : Acceptance} {rounds' : List ℕ} → m.symbol ≡ a → parts ≡ move_round k (round_in rounds u) (round_in rounds s) m
      → won ≡ later (Since round) parts → rounds' ≡ with_earlier rounds i m.state won → rounds' ≡ with_move rounds i round a k u s m
  move_reads e f g h =
      h ∙ ap (with_earlier rounds i m.state) (g ∙ ap (later (Since round)) f) ∙ sym (with_yes (eq-eqb m.symbol a e))

  pub move_skips : (m.symbol ≡ a → ⊥) → rounds ≡ with_move rounds i round a k u s m
  move_skips e = sym (with_no (ne_eqb m.symbol a e))

-- ---- one move more

module _ (zs : List Size) (a k : ℕ) (annotation rest : ℕ → Acceptance) (l : List Move) where
  -- the answer for state q by these of the moves l
  unfoldable pub symbol_among : List Move → ℕ → Acceptance
  symbol_among =
      among (λ m. m.state) (λ m. eqb m.symbol a) (λ j. later (Since (round_of zs j)) (move_round k annotation rest (get_or l j no_move)))

  -- The first n moves are looked at; the next is of this round or a later one.
  pub record SymbolTaken (b : List ℕ) (i : ℕ) (now : List ℕ) (round n : ℕ) : Type 0 where
    pub seen : n ≤ length l
    pub from : round ≤ round_of zs n
    pub row : RowPut b i (symbol_among (take n l)) now

  pub symbol_none : {b : List ℕ} {i : ℕ} → RowZero b i → SymbolTaken b i b 0 0
  unfolding symbol_among
  symbol_none z = record { seen = omega arith; from = omega arith; row = row_same (λ q h. among_none _ _ _ q) (row_none z) }

  pub symbol_all : {b : List ℕ} {i : ℕ} {now : List ℕ} {round n : ℕ} → SymbolTaken b i now round n → length l ≤ n
      → RowPut b i (symbol_round zs a k annotation rest l) now
  unfolding symbol_among symbol_round among
  symbol_all t h = row_all _ _ _ l h t.row

pub symbol_more : {zs : List Size} {a k : ℕ} {l : List Move} {b : List ℕ} {i : ℕ} {now now' : List ℕ} {round round' n : ℕ} {m : Move} (u s : ℕ)
    → SymbolTaken zs a k (round_in b u) (round_in b s) l b i now round n → i * 64 + 64 ≤ length b → u < i → s < i → n < length l
    → m ≡ get_or l n no_move → m.state < 64 → round' ≡ round_of zs n → now' ≡ with_move now i round' a k u s m
    → SymbolTaken zs a k (round_in b u) (round_in b s) l b i now' round' (n + 1)
unfolding symbol_among
symbol_more {zs} {a} {k} {l} {b} {i} {now} {now'} {round} {round'} {n} {m} u s t room hu hs h e small r w =
    let g : round_of zs n ≤ round_of zs (n + 1) = round_of_grows zs (omega arith) in
    let mine : eqb (get_or l n no_move).symbol a ≡ eqb m.symbol a = ap (λ (x : Move). eqb x.symbol a) (sym e) in
    let value : later (Since round') (move_round k (round_in now u) (round_in now s) m)
    ≡ later (Since (round_of zs n)) (move_round k (round_in b u) (round_in b s) (get_or l n no_move)) =
    ap₂ (λ (x : ℕ) (y : Acceptance). later (Since x) y) r
    (ap₂ (λ (f g : ℕ → Acceptance). move_round k f g m) (row_below t.row u hu) (row_below t.row s hs)
    ∙ ap (move_round k (round_in b u) (round_in b s)) e) in
    record {
      seen = omega arith;
      from = omega arith;
      row = by_test (eqb m.symbol a)
          (λ y. row_yes _ _ _ room l no_move h t.row (mine ∙ y) (subst (λ (x : Move). x.state < 64) e small)
          (w ∙ with_yes now i round' a k u s m y ∙ ap₂ (with_earlier now i) (ap (λ (x : Move). x.state) e) value))
          (λ y. row_no _ _ _ room l no_move h t.row (mine ∙ y) (w ∙ with_no now i round' a k u s m y));
    }

-- ---- one edge more

module _ (top rest : ℕ → Acceptance) (l : List Edge) where
  -- the answer for state q by these of the edges l
  unfoldable pub above_among : List Edge → ℕ → Acceptance
  above_among = among (λ e. e.state) (λ e. true) (λ j. edge_round top rest (get_or l j no_edge))

  -- The first n edges are looked at.
  pub record AboveTaken (b : List ℕ) (i : ℕ) (now : List ℕ) (n : ℕ) : Type 0 where
    pub seen : n ≤ length l
    pub row : RowPut b i (above_among (take n l)) now

  pub above_none : {b : List ℕ} {i : ℕ} → RowZero b i → AboveTaken b i b 0
  unfolding above_among
  above_none z = record { seen = omega arith; row = row_same (λ q h. among_none _ _ _ q) (row_none z) }

  pub above_all : {b : List ℕ} {i : ℕ} {now : List ℕ} {n : ℕ} → AboveTaken b i now n → length l ≤ n → RowPut b i (above_round top rest l) now
  unfolding above_among above_round among
  above_all t h =
      row_same (λ q k. ap (λ (test : Edge → Bool). earliest (λ j. edge_round top rest (get_or l j no_edge)) (places test l)) (λ i e. and-true (eqb e.state q) i))
      (row_all _ _ _ l h t.row)

pub above_more : {l : List Edge} {b : List ℕ} {i : ℕ} {now now' : List ℕ} {n : ℕ} {e : Edge} {won : Acceptance} (w t : ℕ)
    → AboveTaken (round_in b w) (round_in b t) l b i now n → i * 64 + 64 ≤ length b → w < i → t < i → n < length l → e ≡ get_or l n no_edge → e.state < 64
    → won ≡ edge_round (round_in now w) (round_in now t) e → now' ≡ with_earlier now i e.state won → AboveTaken (round_in b w) (round_in b t) l b i now' (n + 1)
unfolding above_among
above_more {l} {b} {i} {now} {n = n} {e} w t h room hw ht less is small f g =
    record {
      seen = omega arith;
      row = row_yes _ _ _ room l no_edge less h.row refl (subst (λ (x : Edge). x.state < 64) is small)
          (g ∙ ap₂ (with_earlier now i) (ap (λ (x : Edge). x.state) is)
          (f
          ∙ ap₂ (λ (p q : ℕ → Acceptance). edge_round p q e) (row_below h.row w hw) (row_below h.row t ht)
          ∙ ap (edge_round (round_in b w) (round_in b t)) is));
    }
