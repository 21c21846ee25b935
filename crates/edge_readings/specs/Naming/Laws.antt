-- A state whose choices all leave the joins as they are may be left out of the states named.
-- Assumes nothing.
use Rattle.std.specs.Prelude.{ℕ, ◌+◌, ◌-◌, ◌<◌, Bool, true, false, ◌||◌, ◌≡◌, refl, length, leb, ltb}
use Rattle.std.proofs.lemmas.Bool.{false≢true}
use Rattle.std.proofs.Common.{ap, sym, ◌∙◌, ⊎_elim, arith, lt-ltb, ltb-true}
use Rattle.std.proofs.Math.Path.{subst}
use mathlib.Core.List.Memᴰ
use mathlib.Core.List.{List, [], ◌∷◌, Memᴰ}
use Rattle.words.specs.Sets.{join, single, member, members}
use Rattle.words.proofs.Sets.Laws.{Has, has_in, in_has, has_single, single_has, has_join_left, has_join_right, join_cases, join_comm, join_assoc, ext_all}
use Rattle.words.specs.Laws.Tests.{by_test, equal_tests}
use Rattle.sets.specs.Without.{without}
use Rattle.sets.specs.Without.Laws.{without_has, members_taken}
use Rattle.automata.specs.Automaton.{Automaton, edge_at, edges_of}
use Rattle.automata.specs.Automaton.Laws.{moves_of_out, moves_of_in, edges_of_out}
use Rattle.automata.specs.Derivation.{Result, Joins, join_move}
use Rattle.automata.specs.Facts.Laws.{move_at_kept, move_of_kept}
use Rattle.automata.proofs.Saturation.Laws.{up_to_extends}
use Rattle.choices.specs.Unchanged.{Unchanged}
use Rattle.readings.specs.declared.Before.{Before}
use Rattle.readings.specs.Readings.{read_results, edge_results}
use Rattle.readings.specs.Readings.Order.{read_out, read_in, read_apart, read_together}
use Rattle.readings.specs.Readings.Earlier.{edges_out, edges_in_lem, old_move, edges_old}
use Rattle.readings.specs.Before.{table_before, Known}
use Rattle.readings.specs.Before.Laws.{move_earlier, edge_earlier, newer_no}
use Rattle.edge_readings.specs.Naming.{named_with}

-- ---- a set with one member more

join_there : (N q : ℕ) → Has N q → join N (single q) ≡ N
join_there N q h = ext_all (join N (single q)) N (λ n. equal_tests _ _
    (λ e. ⊎_elim (λ k. k.has) (λ k. subst (λ (m : ℕ). member N m ≡ true) (single_has k) h.has) (join_cases N (single q) (record { has = e })))
    (λ e. (has_join_left (single q) (record { has = e })).has))

-- a member other than the one taken out
kept : (s q m : ℕ) → member s q ≡ true → Has s m → (m ≡ q → ⊥) → Has (without s q) m
kept s q m e h d =
    let t = members_taken s q e in
    in_has (without s q)
    (subst (Memᴰ m) (sym t.left)
    (⊎_elim
    (λ i. Memᴰ.append_left t.after i)
    (λ i. ⊎_elim (λ c. absurd (d c)) (λ k. Memᴰ.append_right t.before k) (Memᴰ.cases_cons i))
    (Memᴰ.append_cases t.before (subst (Memᴰ m) t.there (has_in h)))))

without_joined : (N q : ℕ) → (Has N q → ⊥) → without (join N (single q)) q ≡ N
without_joined N q d =
    let e : member (join N (single q)) q ≡ true = (has_join_right N (has_single q)).has in
    ext_all (without (join N (single q)) q) N (λ n. equal_tests _ _
    (λ f. let (h, o) = without_has (join N (single q)) q e (record { has = f }) in
    ⊎_elim (λ k. k.has) (λ k. absurd (o (sym (single_has k)))) (join_cases N (single q) h))
    (λ f. (kept (join N (single q)) q n e (has_join_left (single q) (record { has = f })) (λ c. d (subst (Has N) c (record { has = f })))).has))

-- ---- a state that is left out

module _ (A : Automaton) (p a q : ℕ) (j : Joins) (c : ℕ) (u : Unchanged A q a j c) (b : 0 < c) where
  less_read : (S N : ℕ) {x : Result} → Memᴰ x (read_results A p a S (members (join N (single q))) j) → Memᴰ x (read_results A p a S (members N) j)
  less_read S N {x} m = by_test (member N q)
      (λ e. subst (λ (k : ℕ). Memᴰ x (read_results A p a S (members k) j)) (join_there N q (record { has = e })) m)
      (λ e.
      let d : Has N q → ⊥ = λ h. false≢true (sym e ∙ h.has) in
      let f = read_out A p a S q (members (without (join N (single q)) q)) j (read_apart A p a S (join N (single q)) q (has_join_right N (has_single q)).has j m) in
      let k : f.joins ≡ j = u.all_leave b f.number f.there f.joins f.joins_are in
      subst (λ (l : ℕ). Memᴰ x (read_results A p a S (members l) j)) (without_joined N q d)
      (subst (λ (l : Joins). Memᴰ x (read_results A p a S (members (without (join N (single q)) q)) l)) k f.rest))

  more_read : (S N : ℕ) {x : Result} → Memᴰ x (read_results A p a S (members N) j) → Memᴰ x (read_results A p a S (members (join N (single q))) j)
  more_read S N {x} m = by_test (member N q)
      (λ e. subst (λ (k : ℕ). Memᴰ x (read_results A p a S (members k) j)) (sym (join_there N q (record { has = e }))) m)
      (λ e.
      let d : Has N q → ⊥ = λ h. false≢true (sym e ∙ h.has) in
      let (i, l) = u.one_leaves b in
      read_together A p a S (join N (single q)) q (has_join_right N (has_single q)).has j
      (read_in A p a S q (members (without (join N (single q)) q)) j
      (record {
        number = c - 1;
        there = i;
        joins = j;
        joins_are = l;
        rest = subst (λ (k : ℕ). Memᴰ x (read_results A p a S (members k) j)) (sym (without_joined N q d)) m;
      })))

  -- one name more, joined before or after
  join_late : (N f : ℕ) → join (join N (single q)) (single f) ≡ join (join N (single f)) (single q)
  join_late N f = join_assoc N (single q) (single f) ∙ ap (join N) (join_comm (single q) (single f)) ∙ sym (join_assoc N (single f) (single q))

  pub less_named : (qs : List ℕ) (N S : ℕ) {x : Result} → Memᴰ x (edge_results A p a j qs (join N (single q)) S) → Memᴰ x (edge_results A p a j qs N S)
  unfolding edge_results
  less_named [] N S m = less_read S N m
  less_named (r ∷ qs) N S {x} m =
      let f = edges_out A p a j r qs (join N (single q)) S m in
      edges_in_lem A p a j r qs N S
      (record {
        number = f.number;
        there = f.there;
        rest = less_named qs (join N (single (edge_at A f.number).first)) (join S (edge_at A f.number).S)
            (subst (λ (k : ℕ). Memᴰ x (edge_results A p a j qs k (join S (edge_at A f.number).S))) (join_late N (edge_at A f.number).first) f.rest);
      })

  pub more_named : (qs : List ℕ) (N S : ℕ) {x : Result} → Memᴰ x (edge_results A p a j qs N S) → Memᴰ x (edge_results A p a j qs (join N (single q)) S)
  unfolding edge_results
  more_named [] N S m = more_read S N m
  more_named (r ∷ qs) N S {x} m =
      let f = edges_out A p a j r qs N S m in
      edges_in_lem A p a j r qs (join N (single q)) S
      (record {
        number = f.number;
        there = f.there;
        rest = subst (λ (k : ℕ). Memᴰ x (edge_results A p a j qs k (join S (edge_at A f.number).S))) (sym (join_late N (edge_at A f.number).first))
            (more_named qs (join N (single (edge_at A f.number).first)) (join S (edge_at A f.number).S) f.rest);
      })

-- ---- the names that the code passes on

module _ (A : Automaton) (p a : ℕ) (j : Joins) (qs : List ℕ) (N first c S : ℕ) (u : Unchanged A first a j c) {x : Result} where
  pub named_less : Memᴰ x (edge_results A p a j qs (join N (single first)) S) → Memᴰ x (edge_results A p a j qs (named_with N first c) S)
  unfolding named_with
  named_less m = by_test (ltb 0 c)
      (λ e. rw (named_with, e) (less_named A p a first j c u (ltb-true 0 c e) qs N S m))
      (λ e. rw (named_with, e) m)

  pub named_more : Memᴰ x (edge_results A p a j qs (named_with N first c) S) → Memᴰ x (edge_results A p a j qs (join N (single first)) S)
  unfolding named_with
  named_more m = by_test (ltb 0 c)
      (λ e. more_named A p a first j c u (ltb-true 0 c e) qs N S (rw (named_with, e) at m))
      (λ e. rw (named_with, e) at m)

-- ---- in the earlier table

module _ (A : Automaton) (w : Before) (p a : ℕ) where
  -- the choices that leave the joins as they are, one of them old
  unchanged_earlier : (q : ℕ) (j : Joins) (c : ℕ) → c < w.moves + 1 → Unchanged A q a j c → Unchanged (table_before w A) q a j c
  unchanged_earlier q j c b u =
      let x = up_to_extends (record { moves = w.moves; entries = w.entries }) A in
      record {
        all_leave = λ h i m k e. let g = moves_of_out (table_before w A) q a m in
            u.all_leave h i (moves_of_in A (move_of_kept x g)) k (ap (join_move j) (move_at_kept x i g.below) ∙ e);
        one_leaves = λ h.
            let (m, e) = u.one_leaves h in
            let l = move_earlier A w (c - 1) (omega arith) (moves_of_out A q a m).below in
            (old_move x p a q m l, ap (join_move j) (sym (move_at_kept x (c - 1) l)) ∙ e);
      }

  -- by edge e of the first state
  pub known_edge : (j : Joins) (q : ℕ) (qs : List ℕ) (N S e c : ℕ) (new newer newest : Bool) → Memᴰ e (edges_of A q) → Unchanged A (edge_at A e).first a j c
      → newer ≡ new || leb (length A.inner + w.entries) e → newest ≡ newer || leb (w.moves + 1) c
      → Known A new (edge_results (table_before w A) p a j (q ∷ qs) N S)
      → Known A newest (edge_results (table_before w A) p a j qs (named_with N (edge_at A e).first c) (join S (edge_at A e).S))
  known_edge j q qs N S e c new newer newest m u d f k =
      record {
        known = λ n.
            let (o, b) = newer_no newer (w.moves + 1) c newest f n in
            let (o', b') = newer_no new (length A.inner + w.entries) e newer d o in
            record {
              all_held = λ x h. (k.known o').all_held x
                  (edges_old (up_to_extends _ A) p a j q qs N S e m (edge_earlier A w e b' (edges_of_out A q m).below)
                  (named_more (table_before w A) p a j qs N (edge_at A e).first c (join S (edge_at A e).S) (unchanged_earlier (edge_at A e).first j c b u) h));
            };
      }

-- ---- in the code

pub name_same : (N first c : ℕ) → 0 < c → N ≡ named_with N first c
unfolding named_with
name_same N first c h = rw (named_with, lt-ltb 0 c h) refl

pub name_more : (N first c bit r : ℕ) → (0 < c → ⊥) → bit ≡ single first → r ≡ join N bit → r ≡ named_with N first c
unfolding named_with
name_more N first c bit r h e f =
    let z : ltb 0 c ≡ false = by_test (ltb 0 c) (λ t. absurd (h (ltb-true 0 c t))) (λ t. t) in
    rw (named_with, z) (f ∙ ap (join N) e)
