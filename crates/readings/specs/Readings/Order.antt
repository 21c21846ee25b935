-- The states of a set may be read in any order: whichever member is read first, the same results arise.
-- Assumes nothing.
use Rattle.std.specs.Prelude.{ℕ, max, true, false, ◌≡◌, refl}
use Rattle.std.proofs.Common.{ap, sym, ◌∙◌, subst, inl, inr, arith}
use Rattle.std.proofs.Math.Option.{Option, none, some}
use mathlib.Core.List.Memᴰ
use mathlib.Core.List.{List, [], ◌∷◌, ◌++◌, Memᴰ}
use Rattle.words.specs.Sets.{join, member, members}
use Rattle.words.proofs.Sets.Laws.{join_comm, join_assoc}
use Rattle.words.specs.Lists.Laws.{each_in, each_out}
use Rattle.sets.specs.Without.{without}
use Rattle.sets.specs.Without.Laws.{members_taken}
use Rattle.automata.specs.Automaton.{Automaton, Move, move_at, moves_of}
use Rattle.automata.specs.Derivation.{Result, Joins, clash, join_move}
use Rattle.automata.specs.Derivation.Joining.{both, join_move_some, join_move_both, clash_fits, fits_clash, Fits}
use Rattle.readings.specs.Readings.{from_joins, read_results}

-- ---- joins of two moves

-- joined in the other order
pub record Swapped (j : Joins) (m n : Move) (l : Joins) : Type 0 where
  pub first : Joins
  pub first_is : join_move j n ≡ some first
  pub second_is : join_move first m ≡ some l

join_three : (a b c : ℕ) → join (join a b) c ≡ join (join a c) b
join_three a b c = join_assoc a b c ∙ ap (join a) (join_comm b c) ∙ sym (join_assoc a c b)

join_swap : (j : Joins) (m n : Move) {k l : Joins} → join_move j m ≡ some k → join_move k n ≡ some l → Swapped j m n l
join_swap j m n {k} {l} e f =
    let a = join_move_some j m e in
    let b = join_move_some (both j m) n (ap (λ (x : Joins). join_move x n) (sym a.1) ∙ f) in
    let o : ℕ = max (max j.order m.order) n.order in
    let jm = clash_fits j.order m.order a.0 in
    let kn = clash_fits (max j.order m.order) n.order b.0 in
    let fj : Fits o j.order = into jm.0 kn.0 in
    let fm : Fits o m.order = into jm.1 kn.0 in
    let x : clash j.order n.order ≡ false = fits_clash o fj kn.1 in
    let y : clash (max j.order n.order) m.order ≡ false = fits_clash o (within fj kn.1) fm in
    record {
      first = both j n;
      first_is = join_move_both j n x;
      second_is = join_move_both (both j n) m y ∙ ap some (sym (b.1 ∙ same));
    }
  where
    into : {o k l : ℕ} → Fits k l → Fits o k → Fits o l
    into (inl z) g = inl z
    into (inr z) (inl g) = inl (z ∙ g)
    into (inr z) (inr g) = inr (z ∙ g)

    within : {o k l : ℕ} → Fits o k → Fits o l → Fits o (max k l)
    within {o} {k} {l} (inl a) (inl b) = let e : max k l ≡ 0 = omega arith in inl e
    within {o} {k} {l} (inl a) (inr b) = let e : max k l ≡ o = omega arith in inr e
    within {o} {k} {l} (inr a) (inl b) = let e : max k l ≡ o = omega arith in inr e
    within {o} {k} {l} (inr a) (inr b) = let e : max k l ≡ o = omega arith in inr e

    same : both (both j m) n ≡ both (both j n) m
    same i =
        let q : max (max j.order m.order) n.order ≡ max (max j.order n.order) m.order = omega arith in
        record { order = q i; B = join_three j.B m.B n.B i; R = join_three j.R m.R n.R i }

-- ---- a result of a reading, by its first move

pub from_joins_lem : (o : Option Joins) (f : Joins → List Result) {x : Result} → Memᴰ x (from_joins o f) → (k : Joins) × (o ≡ some k) × Memᴰ x (f k)
unfolding from_joins
from_joins_lem none f m = absurd (Memᴰ.not-nil m)
from_joins_lem (some k) f m = (k, refl, m)

module _ (A : Automaton) (p a S : ℕ) where
  -- The move that a result's reading takes first, and the joins with it.
  pub record FirstMove (r : ℕ) (rs : List ℕ) (j : Joins) (x : Result) : Type 0 where
    pub number : ℕ
    pub there : Memᴰ number (moves_of A r a)
    pub joins : Joins
    pub joins_are : join_move j (move_at A number) ≡ some joins
    pub rest : Memᴰ x (read_results A p a S rs joins)

  pub read_out : (r : ℕ) (rs : List ℕ) (j : Joins) {x : Result} → Memᴰ x (read_results A p a S (r ∷ rs) j) → FirstMove r rs j x
  unfolding read_results
  read_out r rs j m =
      let w = each_out (moves_of A r a) (λ i. from_joins (join_move j (move_at A i)) (λ k. read_results A p a S rs k)) m in
      let v = from_joins_lem (join_move j (move_at A w.0)) (λ k. read_results A p a S rs k) w.2 in
      record { number = w.0; there = w.1; joins = v.0; joins_are = v.1; rest = v.2 }

  pub read_in : (r : ℕ) (rs : List ℕ) (j : Joins) {x : Result} → FirstMove r rs j x → Memᴰ x (read_results A p a S (r ∷ rs) j)
  unfolding read_results from_joins
  read_in r rs j {x} f =
      each_in (λ i. from_joins (join_move j (move_at A i)) (λ k. read_results A p a S rs k)) f.there
      (subst (λ (o : Option Joins). Memᴰ x (from_joins o (λ k. read_results A p a S rs k))) (sym f.joins_are) f.rest)

  -- ---- any state first

  read_swap : (q r : ℕ) (rs : List ℕ) (j : Joins) {x : Result} → Memᴰ x (read_results A p a S (q ∷ r ∷ rs) j) → Memᴰ x (read_results A p a S (r ∷ q ∷ rs) j)
  read_swap q r rs j m =
      let f = read_out q (r ∷ rs) j m in
      let g = read_out r rs f.joins f.rest in
      let s = join_swap j (move_at A f.number) (move_at A g.number) f.joins_are g.joins_are in
      read_in r (q ∷ rs) j
      (record {
        number = g.number;
        there = g.there;
        joins = s.first;
        joins_are = s.first_is;
        rest = read_in q rs s.first (record { number = f.number; there = f.there; joins = g.joins; joins_are = s.second_is; rest = g.rest });
      })

  read_front : (us : List ℕ) (q : ℕ) (vs : List ℕ) (j : Joins) {x : Result}
      → Memᴰ x (read_results A p a S (us ++ q ∷ vs) j) → Memᴰ x (read_results A p a S (q ∷ us ++ vs) j)
  read_front [] q vs j m = m
  read_front (u ∷ us) q vs j m =
      let f = read_out u (us ++ q ∷ vs) j m in
      read_swap u q (us ++ vs) j
      (read_in u (q ∷ us ++ vs) j
      (record { number = f.number; there = f.there; joins = f.joins; joins_are = f.joins_are; rest = read_front us q vs f.joins f.rest }))

  read_back : (us : List ℕ) (q : ℕ) (vs : List ℕ) (j : Joins) {x : Result}
      → Memᴰ x (read_results A p a S (q ∷ us ++ vs) j) → Memᴰ x (read_results A p a S (us ++ q ∷ vs) j)
  read_back [] q vs j m = m
  read_back (u ∷ us) q vs j m =
      let f = read_out u (q ∷ us ++ vs) j (read_swap q u (us ++ vs) j m) in
      read_in u (us ++ q ∷ vs) j
      (record { number = f.number; there = f.there; joins = f.joins; joins_are = f.joins_are; rest = read_back us q vs f.joins f.rest })

  -- one member of a set first, and the others
  module _ (s q : ℕ) (h : member s q ≡ true) (j : Joins) {x : Result} where
    pub read_apart : Memᴰ x (read_results A p a S (members s) j) → Memᴰ x (read_results A p a S (q ∷ members (without s q)) j)
    read_apart m =
        let t = members_taken s q h in
        subst (λ (l : List ℕ). Memᴰ x (read_results A p a S (q ∷ l) j)) (sym t.left)
        (read_front t.before q t.after j (subst (λ (l : List ℕ). Memᴰ x (read_results A p a S l j)) t.there m))

    pub read_together : Memᴰ x (read_results A p a S (q ∷ members (without s q)) j) → Memᴰ x (read_results A p a S (members s) j)
    read_together m =
        let t = members_taken s q h in
        subst (λ (l : List ℕ). Memᴰ x (read_results A p a S l j)) (sym t.there)
        (read_back t.before q t.after j (subst (λ (l : List ℕ). Memᴰ x (read_results A p a S (q ∷ l) j)) t.left m))
