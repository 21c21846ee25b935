-- Joins of the same moves are the same.
-- Assumes nothing.
use Rattle.std.specs.Prelude.{ℕ, zero, suc, ◌≡◌}
use Rattle.std.proofs.Common.{sym, ◌∙◌, subst, inl, inr, ⊎_elim, arith}
use Rattle.std.proofs.Math.Option.{some}
use mathlib.Core.List.{List, Memᴰ}
use Rattle.words.proofs.Sets.Laws.{Has, All, part_has}
use Rattle.automata.specs.Automaton.{Automaton, Move}
use Rattle.automata.specs.Derivation.{Joins, joins_of, join_moves}
use Rattle.automata.specs.Derivation.Joining.{Fits, Into, join_moves_into, join_moves_some, join_moves_order, join_moves_all}
use Rattle.rounds.specs.Contains.{Matched, Same, SameIn, SameMove}

module _ (A C : Automaton) where
  pub record SameJoins (j k : Joins) : Type 0 where
    pub order_same : k.order ≡ j.order
    pub annotation_same : Matched (SameIn A C j.order) j.B k.B
    pub rest_same : Matched (Same A C) j.R k.R

  -- each move of ms is the same as one of ns, and the other way
  pub record SameMoves (ms ns : List Move) : Type 0 where
    pub forth : (m : Move) → Memᴰ m ms → (n : Move) × Memᴰ n ns × SameMove A C m n
    pub back : (n : Move) → Memᴰ n ns → (m : Move) × Memᴰ m ms × SameMove A C m n

  pub joins_of_same : {m n : Move} → SameMove A C m n → SameJoins (joins_of m) (joins_of n)
  joins_of_same s = record { order_same = s.order_same; annotation_same = s.annotation_same; rest_same = s.rest_same }

  -- sets of order 0 are empty, so they may be taken to have any order
  pub same_in_fits : (o k n m : ℕ) → Fits o k → SameIn A C k n m → SameIn A C o n m
  same_in_fits o zero n m f z = absurd z
  same_in_fits o (suc zero) n m (inl e) z = absurd (omega arith)
  same_in_fits o (suc zero) n m (inr e) z = subst (λ (i : ℕ). SameIn A C i n m) e z
  same_in_fits o (suc (suc k)) n m (inl e) z = absurd (omega arith)
  same_in_fits o (suc (suc k)) n m (inr e) z = subst (λ (i : ℕ). SameIn A C i n m) e z

  -- what is joined into k and its like into k': each member of the one has its like in k', and each of the other in k
  into_forth : {x y k k' : Joins} → Into x k → Into y k' → SameJoins x y
      → All x.B (λ n. (m : ℕ) × Has k'.B m × SameIn A C k.order n m) × All x.R (λ r. (t : ℕ) × Has k'.R t × Same A C r t)
  into_forth {x} {y} {k} {k'} i i' s = (
    λ n h. let (m, g, z) = s.annotation_same.forth n h in (m, part_has y.B k'.B i'.B-part m g, same_in_fits k.order x.order n m i.order_fits_holds z),
    λ r h. let (t, g, z) = s.rest_same.forth r h in (t, part_has y.R k'.R i'.R-part t g, z),
  )

  into_back : {x y k : Joins} → Into x k → SameJoins x y
      → All y.B (λ m. (n : ℕ) × Has k.B n × SameIn A C k.order n m) × All y.R (λ t. (r : ℕ) × Has k.R r × Same A C r t)
  into_back {x} {y} {k} i s = (
    λ m h. let (n, g, z) = s.annotation_same.back m h in (n, part_has x.B k.B i.B-part n g, same_in_fits k.order x.order n m i.order_fits_holds z),
    λ t h. let (r, g, z) = s.rest_same.back t h in (r, part_has x.R k.R i.R-part r g, z),
  )

  module _ {j j' k k' : Joins} {ms ns : List Move} (s : SameJoins j j') (c : SameMoves ms ns) (e : join_moves j ms ≡ some k) (e' : join_moves j' ns ≡ some k') where
    joined_order : Fits k.order k'.order → k'.order ≡ k.order
    joined_order (inr z) = z
    joined_order (inl z) = z ∙ sym (⊎_elim
        (λ p. p ∙ sym s.order_same ∙ none (join_moves_into j' ns e').0.order_fits_holds)
        (λ p. let (n, l, t) = c.forth p.0 p.1 in p.2 ∙ sym t.order_same ∙ none ((join_moves_into j' ns e').1 n l).order_fits_holds)
        (join_moves_order j ms e))
      where
        none : {o : ℕ} → Fits k'.order o → o ≡ 0
        none (inl a) = a
        none (inr a) = a ∙ z

    joined_forth : All k.B (λ n. (m : ℕ) × Has k'.B m × SameIn A C k.order n m) × All k.R (λ r. (t : ℕ) × Has k'.R t × Same A C r t)
    joined_forth =
        let i = join_moves_into j ms e in
        let i' = join_moves_into j' ns e' in
        join_moves_all _ _ j ms e (into_forth i.0 i'.0 s)
        (λ m l. let (n, h, t) = c.forth m l in into_forth (i.1 m l) (i'.1 n h) (joins_of_same t))

    joined_back : All k'.B (λ m. (n : ℕ) × Has k.B n × SameIn A C k.order n m) × All k'.R (λ t. (r : ℕ) × Has k.R r × Same A C r t)
    joined_back =
        let i = join_moves_into j ms e in
        join_moves_all _ _ j' ns e' (into_back i.0 s) (λ n h. let (m, l, t) = c.back n h in into_back (i.1 m l) (joins_of_same t))

    pub joined_same : Fits k.order k'.order → SameJoins k k'
    joined_same f =
        record {
          order_same = joined_order f;
          annotation_same = record { forth = joined_forth.0; back = joined_back.0 };
          rest_same = record { forth = joined_forth.1; back = joined_back.1 };
        }

  -- joins of the same moves are there together, and are the same
  pub joins_same : {j j' k : Joins} {ms ns : List Move} → SameJoins j j' → SameMoves ms ns → join_moves j ms ≡ some k
      → (k' : Joins) × (join_moves j' ns ≡ some k') × SameJoins k k'
  joins_same {j} {j'} {k} {ms} {ns} s c e = go (join_moves_some k.order j' ns
      (rw s.order_same (join_moves_into j ms e).0.order_fits_holds)
      (λ n h. let (m, l, t) = c.back n h in rw t.order_same ((join_moves_into j ms e).1 m l).order_fits_holds))
    where
      go : (k' : Joins) × (join_moves j' ns ≡ some k') × Fits k.order k'.order → (k' : Joins) × (join_moves j' ns ≡ some k') × SameJoins k k'
      go (k', e', f) = (k', e', joined_same s c e e' f)
