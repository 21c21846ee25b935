-- A row as it is put: with one element more, one state more; the round of a move.
-- Assumes nothing.
use Prim.Native.Nat.{ℕ, suc, ◌+◌, ◌*◌, ◌≤◌, ◌<◌}
use Rattle.std.specs.Prelude.{Bool, ◌≡◌, take, ltb}
use Rattle.std.proofs.Math.Bool.{true, false, ◌&&◌, and-false}
use Rattle.std.proofs.Math.Path.{refl, ap, sym}
use Rattle.std.proofs.Common.{ap₂, ◌∙◌, subst, add-one, arith, take_all}
use mathlib.Core.List.{List, [], ◌∷◌}
use Rattle.std.proofs.Math.ListN.{length, get_or, length-set}
use Rattle.std.proofs.Math.Seq.{get_or-set_same, get_or-set_other}
use Rattle.std.proofs.Math.Dec.{eqb}
use borrow.Author.Tests.{eqb-true, eqb-false, ltb-true, ltb-false, lt-ltb, le-ltb}
use Rattle.words.specs.Laws.Tests.{by_test}
use Rattle.words.specs.Lists.{when, places, places_from}
use Rattle.words.specs.Lists.Laws.{places_take}
use Rattle.replies.specs.declared.Acceptance.{Acceptance}
use Rattle.replies.specs.declared.Acceptance.TheVariants.{Never}
use Rattle.replies.specs.Numbers.{answer_word}
use Rattle.automata.specs.Saturation.{Size, round_of}
use Rattle.rounds.specs.RoundOf.{round_of_few, round_of_stops, round_of_more}
use Rattle.rounds.specs.Won.{earlier, earliest, final_round}
use Rattle.rounds.specs.Won.Answers.{earlier_last, earliest_append}
use Rattle.tables.specs.Rows.{row_at, rows_in}
use Rattle.tables.specs.Rows.Laws.{length_rows_in, get_or_rows_in}
use Rattle.saturation.specs.Sizes.{the_size}
use Rattle.saturation.specs.Layout.{size_row}
use Rattle.acceptance_words.specs.Rows.{acceptance_of, round_in, with_earlier}
use Rattle.acceptance_words.specs.Rows.Laws.{acceptance_word, round_there, round_past}
use Rattle.acceptance.specs.Put.{RowZero, RowPut}

-- ---- a row that is put

module _ {b : List ℕ} {i : ℕ} where
  -- nothing is put
  pub row_none : RowZero b i → RowPut b i (λ q. Never) b
  unfolding answer_word
  row_none z = record { long = refl; here = z; below = λ x h. refl; above = λ x h. refl }

  -- the same answers for the 64 states
  pub row_same : {f g : ℕ → Acceptance} {now : List ℕ} → ((q : ℕ) → q < 64 → f q ≡ g q) → RowPut b i f now → RowPut b i g now
  row_same e p = record { long = p.long; here = λ q l. p.here q l ∙ ap answer_word (e q l); below = p.below; above = p.above }

  -- the cells before it keep their words
  row_below_at : {f : ℕ → Acceptance} {now : List ℕ} → RowPut b i f now → (u : ℕ) → u < i → (q : ℕ) → round_in now u q ≡ round_in b u q
  row_below_at {now = now} p u l q = by_test (ltb q 64)
      (λ t.
      let small : q < 64 = ltb-true q 64 t in
      round_there now u q small ∙ ap acceptance_of (p.below (u * 64 + q) (omega arith)) ∙ sym (round_there b u q small))
      (λ t. let large = ltb-false q 64 t in round_past now u q large ∙ sym (round_past b u q large))

  pub row_below : {f : ℕ → Acceptance} {now : List ℕ} → RowPut b i f now → (u : ℕ) → u < i → round_in now u ≡ round_in b u
  row_below p u l = λ j q. row_below_at p u l q j

  -- one state more
  pub row_earlier : {f : ℕ → Acceptance} {now now' : List ℕ} (x : ℕ) (a : Acceptance) → i * 64 + 64 ≤ length b → x < 64 → RowPut b i f now
      → now' ≡ with_earlier now i x a → RowPut b i (λ q. elim (eqb x q) [ true ↦ earlier (f q) a | false ↦ f q ]) now'
  unfolding with_earlier
  row_earlier {f} {now} {now'} x a room small p e =
      let len : length now ≡ length b = p.long in
      let v : ℕ = answer_word (earlier (round_in now i x) a) in
      let was : round_in now i x ≡ f x = round_there now i x small ∙ ap acceptance_of (p.here x small) ∙ acceptance_word (f x) in
      let other : (y : ℕ) → (y ≡ i * 64 + x → ⊥) → get_or now' y 0 ≡ get_or now y 0 =
      λ y d. ap (λ (l : List ℕ). get_or l y 0) e ∙ get_or-set_other now (i * 64 + x) y v 0 d in
      let same : get_or now' (i * 64 + x) 0 ≡ v = ap (λ (l : List ℕ). get_or l (i * 64 + x) 0) e ∙ get_or-set_same now (i * 64 + x) v 0 (omega arith) in
      record {
        long = ap length e ∙ length-set now (i * 64 + x) v ∙ p.long;
        here = λ q l. by_test (eqb x q)
            (λ t.
            let z : x ≡ q = eqb-true x q t in
            rw t (ap (λ (k : ℕ). get_or now' (i * 64 + k) 0) (sym z) ∙ same ∙ ap (λ (c : Acceptance). answer_word (earlier c a)) was ∙ ap (λ (k : ℕ). answer_word (earlier (f k) a)) z))
            (λ t.
            let d : x ≡ q → ⊥ = eqb-false x q t in
            rw t (other (i * 64 + q) (λ h. d (omega arith)) ∙ p.here q l));
        below = λ y h. other y (λ w. absurd (omega arith)) ∙ p.below y h;
        above = λ y h. other y (λ w. absurd (omega arith)) ∙ p.above y h;
      }

-- ---- a row put by a pass over numbered elements, each with a state

module _ {X : Type 0} (state : X → ℕ) (mine : X → Bool) (f : ℕ → Acceptance) where
  -- the answer for state q, by those of these elements that are mine
  unfoldable pub among : List X → ℕ → Acceptance
  among xs q = earliest f (places (λ x. eqb (state x) q && mine x) xs)

  pub among_none : (q : ℕ) → Never ≡ among [] q
  unfolding among places places_from earliest
  among_none q = refl

  -- one element more
  among_more : (l : List X) (n : ℕ) (d : X) (q : ℕ) → n < length l
      → among (take (suc n) l) q ≡ earlier (among (take n l) q) (earliest f (when (eqb (state (get_or l n d)) q && mine (get_or l n d)) (n ∷ [])))
  unfolding among
  among_more l n d q h = ap (earliest f) (places_take _ l n d h) ∙ earliest_append f (places _ (take n l)) _

  more_yes : (l : List X) (n : ℕ) (d : X) (q : ℕ) → n < length l → mine (get_or l n d) ≡ true
      → elim (eqb (state (get_or l n d)) q) [ true ↦ earlier (among (take n l) q) (f n) | false ↦ among (take n l) q ] ≡ among (take (suc n) l) q
  unfolding when earliest
  more_yes l n d q h m = by_test (eqb (state (get_or l n d)) q)
      (λ t. rw t (sym (among_more l n d q h ∙ ap (λ (b : Bool). earlier (among (take n l) q) (earliest f (when b (n ∷ [])))) (ap₂ ◌&&◌ t m) ∙ ap (earlier (among (take n l) q)) (earlier_last (f n)))))
      (λ t. rw t (sym (among_more l n d q h ∙ ap (λ (b : Bool). earlier (among (take n l) q) (earliest f (when (b && mine (get_or l n d)) (n ∷ [])))) t ∙ earlier_last _)))

  more_no : (l : List X) (n : ℕ) (d : X) (q : ℕ) → n < length l → mine (get_or l n d) ≡ false → among (take n l) q ≡ among (take (suc n) l) q
  unfolding when earliest
  more_no l n d q h m =
      let none : eqb (state (get_or l n d)) q && mine (get_or l n d) ≡ false = ap (λ (b : Bool). eqb (state (get_or l n d)) q && b) m ∙ and-false (eqb (state (get_or l n d)) q) in
      sym (among_more l n d q h
      ∙ ap (λ (b : Bool). earlier (among (take n l) q) (earliest f (when b (n ∷ [])))) none
      ∙ earlier_last (among (take n l) q))

  module _ {b : List ℕ} {i : ℕ} (room : i * 64 + 64 ≤ length b) (l : List X) (d : X) {n : ℕ} (h : n < length l) {now now' : List ℕ}
      (p : RowPut b i (among (take n l)) now) where
    -- it is mine
    pub row_yes : mine (get_or l n d) ≡ true → state (get_or l n d) < 64 → now' ≡ with_earlier now i (state (get_or l n d)) (f n) → RowPut b i (among (take (n + 1) l)) now'
    row_yes m small e =
        row_same (λ q k. more_yes l n d q h m ∙ ap (λ (j : ℕ). among (take j l) q) (sym (add-one n))) (row_earlier (state (get_or l n d)) (f n) room small p e)

    -- it is not
    pub row_no : mine (get_or l n d) ≡ false → now' ≡ now → RowPut b i (among (take (n + 1) l)) now'
    row_no m e =
        subst (RowPut b i (among (take (n + 1) l))) (sym e)
        (row_same (λ q k. more_no l n d q h m ∙ ap (λ (j : ℕ). among (take j l) q) (sym (add-one n))) p)

  -- all of them
  pub row_all : {b : List ℕ} {i : ℕ} (l : List X) {n : ℕ} {now : List ℕ} → length l ≤ n → RowPut b i (among (take n l)) now → RowPut b i (among l) now
  row_all l {n} h p = row_same (λ q k. ap (λ (xs : List X). among xs q) (take_all n l h)) p

-- ---- the round of a move, by one size after another

module _ (k : ℕ) (sizes : List ℕ) (i r : ℕ) where
  size_is : {x : Size} → r < k → x ≡ row_at size_row sizes r → (get_or (rows_in size_row k sizes) r (the_size 0 0)).moves ≡ x.moves
  size_is l e = ap (λ (y : Size). y.moves) (get_or_rows_in size_row k sizes r (the_size 0 0) l ∙ sym e)

  pub round_stops : {x : Size} → r ≤ round_of (rows_in size_row k sizes) i → r < k → x ≡ row_at size_row sizes r → i < x.moves → r ≡ round_of (rows_in size_row k sizes) i
  round_stops h l e m =
      let n : length (rows_in size_row k sizes) ≡ k = length_rows_in size_row k sizes in
      let s = size_is l e in
      let b = round_of_stops (rows_in size_row k sizes) i r (the_size 0 0) (omega arith) (omega arith) in
      omega arith

  pub round_more : {x : Size} → r ≤ round_of (rows_in size_row k sizes) i → r < k → x ≡ row_at size_row sizes r → x.moves ≤ i → r + 1 ≤ round_of (rows_in size_row k sizes) i
  round_more h l e m =
      let n : length (rows_in size_row k sizes) ≡ k = length_rows_in size_row k sizes in
      let s = size_is l e in
      let b = round_of_more (rows_in size_row k sizes) i r (the_size 0 0) h (omega arith) (omega arith) in
      omega arith

  pub round_all : r ≤ round_of (rows_in size_row k sizes) i → k ≤ r → k ≡ round_of (rows_in size_row k sizes) i
  round_all h l =
      let n : length (rows_in size_row k sizes) ≡ k = length_rows_in size_row k sizes in
      let b = round_of_few (rows_in size_row k sizes) i in
      omega arith

-- it is at most their number
pub round_few : (k : ℕ) (sizes : List ℕ) (i : ℕ) {r m : ℕ} → r ≡ round_of (rows_in size_row k sizes) i → k < m → r < m
round_few k sizes i e l =
    let n : length (rows_in size_row k sizes) ≡ k = length_rows_in size_row k sizes in
    let b = round_of_few (rows_in size_row k sizes) i in
    omega arith

-- ---- the final states, one after another

-- the answers for the states below n
unfoldable pub final_below : ℕ → ℕ → ℕ → Acceptance
final_below set n q = elim (ltb q n) [ true ↦ final_round set q | false ↦ Never ]

module _ (set n : ℕ) where
  below_here : (q : ℕ) → q ≡ n → final_below set (n + 1) q ≡ final_round set n
  unfolding final_below
  below_here q e = rw (final_below, lt-ltb q (n + 1) (omega arith)) (ap (final_round set) e)

  below_other : (q : ℕ) → (q ≡ n → ⊥) → final_below set n q ≡ final_below set (n + 1) q
  unfolding final_below
  below_other q d = ap (λ (t : Bool). elim t [ true ↦ final_round set q | false ↦ Never ]) (by_test (ltb q n)
      (λ t. let l = ltb-true q n t in t ∙ sym (lt-ltb q (n + 1) (omega arith)))
      (λ t. let l = ltb-false q n t in t ∙ sym (le-ltb q (n + 1) (omega arith))))

  below_none : final_below set n n ≡ Never
  unfolding final_below
  below_none = rw (final_below, le-ltb n n (omega arith))

  -- one state more
  pub final_more : {b : List ℕ} {i : ℕ} {now now' : List ℕ} {a : Acceptance} → i * 64 + 64 ≤ length b → n < 64 → RowPut b i (final_below set n) now
      → a ≡ final_round set n → now' ≡ with_earlier now i n a → RowPut b i (final_below set (n + 1)) now'
  unfolding earlier
  final_more {a = a} room small p g e =
      row_same (λ q l. by_test (eqb n q)
      (λ t.
      let z : n ≡ q = eqb-true n q t in
      rw t (ap (λ (k : ℕ). earlier (final_below set n k) a) (sym z) ∙ ap (λ (c : Acceptance). earlier c a) below_none ∙ g ∙ sym (below_here q (sym z))))
      (λ t. rw t (below_other q (λ h. eqb-false n q t (sym h)))))
      (row_earlier n a room small p e)

pub final_none : {b : List ℕ} {i : ℕ} (set : ℕ) → RowZero b i → RowPut b i (final_below set 0) b
unfolding final_below
final_none set z = row_same (λ q l. sym (rw (final_below, le-ltb q 0 (omega arith)))) (row_none z)

pub final_all : {b : List ℕ} {i : ℕ} (set n : ℕ) {now : List ℕ} → 64 ≤ n → RowPut b i (final_below set n) now → RowPut b i (final_round set) now
unfolding final_below
final_all set n h p = row_same (λ q l. rw (final_below, lt-ltb q n (omega arith))) p
