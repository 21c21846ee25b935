-- Laws of containment: matched sets, `Same` as an injective renaming, and what extension and an own automaton give.
-- Assumes nothing.
use Rattle.std.specs.Prelude.{ℕ, zero, suc, ◌+◌, ◌-◌, ◌≤◌, ◌<◌, ◌≡◌, refl, get_or, ltb}
use Rattle.std.proofs.Common.{ap, sym, ◌∙◌, subst, arith, ltb-true, ltb-false}
use Rattle.std.proofs.Math.Option.{some, some-injective}
use Rattle.words.specs.Sets.{join, single}
use Rattle.words.proofs.Sets.Laws.{Has, All, all_empty, all_join, has_join_left, has_join_right, has_single, all_single, has_part, part_antisym}
use Rattle.words.specs.Laws.Tests.{by_test}
use Rattle.words.specs.Lists.Laws.{get_elem?_some, get_elem?_below}
use Rattle.automata.specs.Automaton.{Automaton, Move, Entry, no_entry, entry_key, entry_at}
use Rattle.automata.specs.Automaton.Laws.{entry_at_some, entry_at_entry, entry_at_range}
use Rattle.automata.specs.Facts.{Extends, TableFacts, OwnFacts, Once, states}
use Rattle.automata.specs.Facts.Laws.{extends_refl, entry_at_kept, move_kept, entry_kept}
use Rattle.rounds.specs.Contains.{Matched, Same, inner, entry, SameIn, SameMove, Contains}

-- ---- matched sets

pub matched_empty : (X : ℕ → ℕ → Type 0) → Matched X 0 0
matched_empty X = record { forth = all_empty _; back = all_empty _ }

pub matched_single : (X : ℕ → ℕ → Type 0) (n m : ℕ) → X n m → Matched X (single n) (single m)
matched_single X n m x = record { forth = all_single _ n (m, has_single m, x); back = all_single _ m (n, has_single n, x) }

pub matched_join : {X : ℕ → ℕ → Type 0} {a b c d : ℕ} → Matched X a b → Matched X c d → Matched X (join a c) (join b d)
matched_join {X} {a} {b} {c} {d} x y =
    record {
      forth = all_join (λ n h. let (m, k, z) = x.forth n h in (m, has_join_left d k, z)) (λ n h. let (m, k, z) = y.forth n h in (m, has_join_right b k, z));
      back = all_join (λ n h. let (m, k, z) = x.back n h in (m, has_join_left c k, z)) (λ n h. let (m, k, z) = y.back n h in (m, has_join_right a k, z));
    }

pub matched_map : {X Y : ℕ → ℕ → Type 0} {a b : ℕ} → ((n m : ℕ) → X n m → Y n m) → Matched X a b → Matched Y a b
matched_map f x =
    record {
      forth = λ n h. let (m, k, z) = x.forth n h in (m, k, f n m z);
      back = λ m h. let (n, k, z) = x.back m h in (n, k, f n m z);
    }

-- sets whose members are matched by equality are equal
pub matched_equal : {a b : ℕ} → Matched ◌≡◌ a b → a ≡ b
matched_equal {a} {b} x =
    part_antisym a b
    (has_part (λ n h. let (m, k, z) = x.forth n h in subst (Has b) (sym z) k))
    (has_part (λ m h. let (n, k, z) = x.back m h in subst (Has a) z k))

pub equal_matched : {a b : ℕ} → a ≡ b → Matched ◌≡◌ a b
equal_matched {a} {b} e = record { forth = λ n h. (n, subst (λ (s : ℕ). Has s n) e h, refl); back = λ n h. (n, subst (λ (s : ℕ). Has s n) (sym e) h, refl) }

-- ---- a state is the same as at most one other, both ways: `Same` is an injective renaming

-- where each entry is there once, the entry determines the state
pub entry_at_once : (A : Automaton) → Once A.entries → (r s : ℕ) {e : Entry} → entry_at A r ≡ some e → entry_at A s ≡ some e → r ≡ s
entry_at_once A once r s {e} x y =
    let (i, p, f) = entry_at_some A r x in
    let (j, q, g) = entry_at_some A s y in
    let (li, ei) = get_elem?_some A.entries i f in
    let (lj, ej) = get_elem?_some A.entries j g in
    let k : i ≡ j = once i j li lj (ap entry_key (ei no_entry ∙ sym (ej no_entry))) in
    p ∙ ap (λ (n : ℕ). A.J + n) k ∙ sym q

module _ {A C : Automaton} where
  pub same_function : Once C.entries → {r s t : ℕ} → Same A C r s → Same A C r t → s ≡ t
  same_function once (inner l e) (inner k f) = e ∙ sym f
  same_function once {r} (inner l e) (entry f g) = let (k, h) = entry_at_range A r f in absurd (omega arith)
  same_function once {r} (entry f g) (inner l e) = let (k, h) = entry_at_range A r f in absurd (omega arith)
  same_function once {r} {s} {t} (entry {e = e} f g) (entry {e = e'} f' g') =
      entry_at_once C once s t g (rw (some-injective e e' (sym f ∙ f')) g')

  pub same_injective : C.J ≡ A.J → Once A.entries → {q r s : ℕ} → Same A C q s → Same A C r s → q ≡ r
  same_injective j once (inner l e) (inner k f) = sym e ∙ f
  same_injective j once {q} {r} {s} (inner l e) (entry f g) = let (k, h) = entry_at_range C s g in absurd (omega arith)
  same_injective j once {q} {r} {s} (entry f g) (inner l e) = let (k, h) = entry_at_range C s g in absurd (omega arith)
  same_injective j once {q} {r} {s} (entry {e = e} f g) (entry {e = e'} f' g') =
      entry_at_once A once q r f (rw (some-injective e e' (sym g ∙ g')) f')

  -- ---- extension

  module _ {A' C' : Automaton} (x : Extends A A') (y : Extends C C') where
    pub same_kept : {r s : ℕ} → Same A C r s → Same A' C' r s
    same_kept {r} {s} (inner l e) = inner (rw x.same_J l) e
    same_kept {r} {s} (entry f g) = entry (entry_at_kept x r f) (entry_at_kept y s g)

    pub same_in_kept : (k n m : ℕ) → SameIn A C k n m → SameIn A' C' k n m
    same_in_kept zero n m z = z
    same_in_kept (suc zero) n m z = same_kept z
    same_in_kept (suc (suc k)) n m z = z

    pub same_move_kept : {m n : Move} → SameMove A C m n → SameMove A' C' m n
    same_move_kept {m} s =
        record {
          state_same = same_kept s.state_same;
          symbol_same = s.symbol_same;
          order_same = s.order_same;
          annotation_same = matched_map (same_in_kept m.order) s.annotation_same;
          rest_same = matched_map (λ r s z. same_kept z) s.rest_same;
        }

pub contains_kept : {A C D : Automaton} → Extends C D → Contains A C → Contains A D
contains_kept {A} {C} {D} y c =
    let x : Extends A A = extends_refl A in
    record {
      same_J = y.same_J ∙ c.same_J;
      final1_in = λ r h. let (s, k, z) = c.final1_in r h in (s, rw y.same_final1 k, same_kept x y z);
      final2_in = λ q h. rw y.same_final2 (c.final2_in q h);
      inner_in = λ e j. rw y.same_inner (c.inner_in e j);
      entries_in = λ e j. entry_kept y (c.entries_in e j);
      moves_in_holds = λ m j. let (n, k, s) = c.moves_in_holds m j in (n, move_kept y k, same_move_kept x y s);
    }

-- ---- an own automaton contains itself

module _ (A : Automaton) where
  pub same_self : (r : ℕ) → r < states A → Same A A r r
  same_self r l = by_test (ltb r A.J)
      (λ t. inner (ltb-true r A.J t) refl)
      (λ t.
      let k : A.J ≤ r = ltb-false r A.J t in
      let p : r ≡ A.J + (r - A.J) = omega arith in
      let z : entry_at A r ≡ some (get_or A.entries (r - A.J) no_entry) =
      ap (entry_at A) p ∙ entry_at_entry A (r - A.J) ∙ get_elem?_below A.entries (r - A.J) no_entry (omega arith) in
      entry z z)

  pub matched_self : (R : ℕ) → All R (λ r. r < A.J) → Matched (Same A A) R R
  matched_self R f = record { forth = λ r h. (r, h, inner (f r h) refl); back = λ r h. (r, h, inner (f r h) refl) }

  pub annotation_self : (k B : ℕ) → (k ≡ 0 → B ≡ 0) → (k ≡ 1 → All B (λ r. r < A.J)) → Matched (SameIn A A k) B B
  annotation_self zero B f g = rw (f refl) (matched_empty (SameIn A A 0))
  annotation_self (suc zero) B f g = matched_self B (g refl)
  annotation_self (suc (suc k)) B f g = equal_matched refl

  pub contains_self : {P : ℕ} → TableFacts P A → OwnFacts P A → Contains A A
  contains_self F O =
      record {
        same_J = refl;
        final1_in = λ r h. (r, h, same_self r (F.final1_exists r h));
        final2_in = λ q h. h;
        inner_in = λ e j. j;
        entries_in = λ e j. j;
        moves_in_holds = λ m j. (
          m,
          j,
          record {
            state_same = same_self m.state (F.move_facts m j).state_exists;
            symbol_same = refl;
            order_same = refl;
            annotation_same = annotation_self m.order m.B (F.move_facts m j).none_empty (O.annotation1_inner m j);
            rest_same = matched_self m.R (O.rest_inner m j);
          },
        );
      }
