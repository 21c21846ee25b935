-- A reading that succeeds shows that the states left can reach the joins wanted. So where they can not, there is none.
-- Assumes nothing.
use Rattle.std.specs.Prelude.{ℕ, false, ◌≡◌, get_or}
use Rattle.std.proofs.Math.Bool.{true, ◌&&◌}
use Rattle.std.proofs.lemmas.Bool.{false≢true}
use Rattle.std.proofs.Math.Path.{refl, ap, ap₂, subst}
use Rattle.std.proofs.Common.{sym, ◌∙◌, eq-eqb}
use Rattle.std.proofs.Math.Logic.{⊎_elim}
use Rattle.std.proofs.Math.Option.{Option, none, some}
use mathlib.Core.List.Memᴰ
use mathlib.Core.List.{List, [], ◌∷◌, ◌++◌, map, Memᴰ}
use Rattle.words.specs.Sets.{member, single, join, part_of, members}
use Rattle.words.proofs.Sets.Laws.{Has, All, has_part, part_has, part_refl, part_trans, part_join_left, part_join_right, has_in, in_has, all_join, all_one}
use Rattle.words.specs.Lists.{choices}
use Rattle.words.specs.Lists.Laws.{first_some, get_or_in}
use Rattle.words.specs.Laws.Tests.{by_test}
use Rattle.automata.specs.Automaton.{Automaton, Move, no_move, move_at, moves_of}
use Rattle.automata.specs.Automaton.Laws.{MoveOf}
use Rattle.automata.specs.Derivation.{Result, Joins, joins_of, join_all, readings}
use Rattle.automata.specs.Derivation.Numbers.{Paired, paired_state, paired_number, readings_out}
use Rattle.automata.specs.Derivation.Joining.{Into, join_move_both, both, fits_clash, join_all_into, join_all_all}
use Rattle.joins.specs.Joining.{candidate_of}
use Rattle.joins.specs.Joining.Laws.{candidate_yes}
use Rattle.first_reading.specs.declared.Reach.{Reach}
use Rattle.first_reading.specs.First.{is_some}
use Rattle.first_reading.specs.Search.{joins_key, wanted, within, first_reading}
use Rattle.first_reading.specs.Search.Laws.{reached, reading_first}
use Rattle.first_reading.specs.Search.Parts.{reached_some}
use Rattle.first_reading.specs.Words.Laws.{within_yes}
use Rattle.first_reading.specs.Reach.{reach_of, reach_by, usable, reach_with, reach_all, fills, can_fill}

-- ---- what is reached grows by each usable move

-- z reaches what y does
record Grown (y z : Reach) : Type 0 where
  states_part : part_of y.states z.states ≡ true
  b_part : part_of y.b z.b ≡ true
  r_part : part_of y.r z.r ≡ true

-- what move m reaches
abbrev move_reach : Move → Reach
move_reach m = record { states = single m.state; b = m.B; r = m.R }

grown_refl : (z : Reach) → Grown z z
grown_refl z = record { states_part = part_refl z.states; b_part = part_refl z.b; r_part = part_refl z.r }

grown_trans : {x y z : Reach} → Grown x y → Grown y z → Grown x z
grown_trans {x} {y} {z} f g =
    record {
      states_part = part_trans x.states y.states z.states f.states_part g.states_part;
      b_part = part_trans x.b y.b z.b f.b_part g.b_part;
      r_part = part_trans x.r y.r z.r f.r_part g.r_part;
    }

by_grown : (z : Reach) (m : Move) → Grown z (reach_by z m) × Grown (move_reach m) (reach_by z m)
by_grown z m = (
  record { states_part = part_join_left z.states (single m.state); b_part = part_join_left z.b m.B; r_part = part_join_left z.r m.R },
  record { states_part = part_join_right z.states (single m.state); b_part = part_join_right z.b m.B; r_part = part_join_right z.r m.R },
)

module _ (a : ℕ) (x : Result) (left : ℕ) (j : Joins) where
  pub with_yes : (z : Reach) (m : Move) → usable a x left j m ≡ true → reach_with a x left j z m ≡ reach_by z m
  unfolding reach_with
  with_yes z m e = rw (reach_with, e)

  pub with_no : (z : Reach) (m : Move) → usable a x left j m ≡ false → reach_with a x left j z m ≡ z
  unfolding reach_with
  with_no z m e = rw (reach_with, e)

  with_grown : (z : Reach) (m : Move) → Grown z (reach_with a x left j z m)
  with_grown z m = by_test (usable a x left j m)
      (λ e. subst (Grown z) (sym (with_yes z m e)) (by_grown z m).0)
      (λ e. subst (Grown z) (sym (with_no z m e)) (grown_refl z))

  all_grown : (z : Reach) (ms : List Move) → Grown z (reach_all a x left j z ms)
  unfolding reach_all
  all_grown z [] = grown_refl z
  all_grown z (m ∷ ms) = grown_trans (with_grown z m) (all_grown (reach_with a x left j z m) ms)

  all_reach : (z : Reach) (ms : List Move) {m : Move} → Memᴰ m ms → usable a x left j m ≡ true → Grown (move_reach m) (reach_all a x left j z ms)
  unfolding reach_all
  all_reach z [] i e = absurd (Memᴰ.not-nil i)
  all_reach z (n ∷ ms) {m} i e = ⊎_elim
      (λ (p : m ≡ n).
      let y = with_yes z n (sym (ap (usable a x left j) p) ∙ e) in
      subst (λ (l : Move). Grown (move_reach l) (reach_all a x left j (reach_with a x left j z n) ms)) (sym p)
      (grown_trans (subst (Grown (move_reach n)) (sym y) (by_grown z n).1) (all_grown (reach_with a x left j z n) ms)))
      (λ k. all_reach (reach_with a x left j z n) ms k e)
      (Memᴰ.cases_cons i)

  -- one move more at the end
  pub all_more : (z : Reach) (ms : List Move) (m : Move) → reach_all a x left j z (ms ++ m ∷ []) ≡ reach_with a x left j (reach_all a x left j z ms) m
  unfolding reach_all
  all_more z [] m = refl
  all_more z (n ∷ ms) m = all_more (reach_with a x left j z n) ms m

-- ---- a reading that succeeds

part_both : (a b c : ℕ) → part_of a c ≡ true → part_of b c ≡ true → part_of (join a b) c ≡ true
part_both a b c x y = has_part (all_join (part_has a c x) (part_has b c y))

-- joins that are those of x have its sets
key_sets : (x : Result) (k : Joins) → joins_key k ≡ wanted x → (k.B ≡ x.B) × (k.R ≡ x.R)
unfolding joins_key wanted
key_sets x k e = (ap (λ (l : List ℕ). get_or l 1 0) e, ap (λ (l : List ℕ). get_or l 2 0) e)

module _ (A : Automaton) (a : ℕ) (x : Result) (left : ℕ) (j : Joins) where
  -- a move on a of a state left is usable, where it and j are parts of joins that are those of x
  into_usable : (k : Joins) (q i : ℕ) → joins_key k ≡ wanted x → Into j k → Into (joins_of (move_at A i)) k → Has left q → MoveOf A a q i
      → usable a x left j (move_at A i) ≡ true
  unfolding usable is_some
  into_usable k q i e f g h o =
      let m : Move = move_at A i in
      let s = key_sets x k e in
      let c : candidate_of m.state a j m ≡ some (both j m) =
      candidate_yes j m m.state a (ap₂ ◌&&◌ (eq-eqb m.state m.state refl) (eq-eqb m.symbol a o.symbol_is))
      ∙ join_move_both j m (fits_clash k.order f.order_fits_holds g.order_fits_holds) in
      let w : within x (some (both j m)) ≡ some (both j m) =
      within_yes x (both j m)
      (subst (λ (t : ℕ). part_of (join j.B m.B) t ≡ true) s.0 (part_both j.B m.B k.B f.B-part g.B-part))
      (subst (λ (t : ℕ). part_of (join j.R m.R) t ≡ true) s.1 (part_both j.R m.R k.R f.R-part g.R-part)) in
      ap₂ ◌&&◌ (ap (member left) o.state_is ∙ h.has) (ap (λ (t : Option Joins). is_some (within x t)) c ∙ ap is_some w)

  reading_fills : {ms : List ℕ} → first_reading A a (wanted x) (members left) j ≡ some ms → can_fill A a x left j ≡ true
  unfolding can_fill fills readings move_at
  reading_fills {ms} e =
      let f = first_some (λ ns. reached (wanted x) (join_all A j ns)) (choices (map (λ r. moves_of A r a) (members left))) (reading_first A a (wanted x) (members left) j ∙ e) in
      let (k, joined, key) = reached_some (wanted x) (join_all A j ms) f.1 in
      let s = key_sets x k key in
      let ps : Paired (MoveOf A a) (members left) ms = readings_out A a left f.0 in
      let into = join_all_into A j ms joined in
      let z : Reach = reach_all a x left j (reach_of j) A.moves in
      let own = all_grown a x left j (reach_of j) A.moves in
      let own-B : part_of j.B z.b ≡ true = own.b_part in
      let own-R : part_of j.R z.r ≡ true = own.r_part in
      let each : (i : ℕ) → Memᴰ i ms → Grown (move_reach (move_at A i)) z = λ i l.
      let (q, n, o) = paired_state ps l in
      all_reach a x left j (reach_of j) A.moves (get_or_in A.moves i no_move o.below) (into_usable k q i key into.0 (into.1 i l) (in_has left n) o) in
      let sets : All k.B (Has z.b) × All k.R (Has z.r) =
      join_all_all A (Has z.b) (Has z.r) j ms joined (part_has j.B z.b own-B, part_has j.R z.r own-R)
      (λ i l. (part_has (move_at A i).B z.b (each i l).b_part, part_has (move_at A i).R z.r (each i l).r_part)) in
      let states : All left (Has z.states) = λ q h.
      let (i, l, o) = paired_number ps (has_in h) in
      subst (Has z.states) o.state_is (all_one (move_at A i).state (part_has (single (move_at A i).state) z.states (each i l).states_part)) in
      ap₂ ◌&&◌ (ap₂ ◌&&◌ (has_part states) (subst (λ (t : ℕ). part_of t z.b ≡ true) s.0 (has_part sets.0)))
      (subst (λ (t : ℕ). part_of t z.r ≡ true) s.1 (has_part sets.1))

  -- where the states left can not reach the joins wanted, there is no reading
  pub reading_cut : can_fill A a x left j ≡ false → first_reading A a (wanted x) (members left) j ≡ none
  reading_cut e = go (first_reading A a (wanted x) (members left) j) refl
    where
      go : (o : Option (List ℕ)) → first_reading A a (wanted x) (members left) j ≡ o → o ≡ none
      go none h = refl
      go (some ms) h = absurd (false≢true (sym e ∙ reading_fills h))
