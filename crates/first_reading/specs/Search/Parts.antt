-- What a search that succeeds says of the joins carried along: they are parts of those wanted. So a candidate whose joins are no parts may
-- be passed over.
-- Assumes nothing.
use Rattle.std.specs.Prelude.{ℕ, true, ◌≡◌, eqb}
use Rattle.std.proofs.Math.Bool.{false, ◌&&◌}
use Rattle.std.proofs.lemmas.Bool.{false≢true}
use Rattle.std.proofs.Math.Path.{refl, ap, ap₂, sym, subst}
use Rattle.std.proofs.Common.{◌∙◌, eqb-true}
use Rattle.std.proofs.Math.Option.{Option, none, some, map-eq-some_iff}
use mathlib.Core.List.{List, [], ◌∷◌, map}
use Rattle.std.proofs.Math.ListN.{get_or}
use Rattle.words.specs.Sets.{join, single, part_of}
use Rattle.words.proofs.Sets.Laws.{part_refl, part_trans, part_join_left}
use Rattle.words.specs.Lists.{choices}
use Rattle.words.specs.Lists.Laws.{first_some}
use Rattle.words.specs.Laws.Tests.{by_test}
use Rattle.words.specs.Order.Laws.{same_eq}
use Rattle.automata.specs.Automaton.{Automaton, edge_at, edges_of, moves_of}
use Rattle.automata.specs.Derivation.{Result, Joins, join_all}
use Rattle.automata.specs.Derivation.Joining.{Into, join_all_into}
use Rattle.first_reading.specs.First.Laws.{only_if_yes, only_if_no, only_if_some, first_of_some}
use Rattle.first_reading.specs.Search.{joins_key, wanted, within, Numbers, with_edge, first_reading, first_edges}
use Rattle.first_reading.specs.Search.Laws.{reached, read_on, reading_first}

-- ---- readings

pub reached_some : (goal : List ℕ) (o : Option Joins) → reached goal o ≡ true → (k : Joins) × (o ≡ some k) × (joins_key k ≡ goal)
unfolding reached
reached_some goal none h = absurd (false≢true h)
reached_some goal (some k) h = (k, refl, same_eq (joins_key k) goal h)

module _ (A : Automaton) (a : ℕ) where
  -- the joins that a reading begins with are parts of those that it ends with
  reading_into : (goal qs : List ℕ) (j : Joins) {ms : List ℕ} → first_reading A a goal qs j ≡ some ms → (k : Joins) × (joins_key k ≡ goal) × Into j k
  reading_into goal qs j {ms} e =
      let f = first_some (λ ns. reached goal (join_all A j ns)) (choices (map (λ r. moves_of A r a) qs)) (reading_first A a goal qs j ∙ e) in
      let r = reached_some goal (join_all A j ms) f.1 in
      (r.0, r.2, (join_all_into A j ms r.1).0)

  pub reading_parts : (x : Result) (qs : List ℕ) (j : Joins) {ms : List ℕ} → first_reading A a (wanted x) qs j ≡ some ms
      → (part_of j.B x.B ≡ true) × (part_of j.R x.R ≡ true)
  unfolding joins_key wanted
  reading_parts x qs j e =
      let r = reading_into (wanted x) qs j e in (
        subst (λ (s : ℕ). part_of j.B s ≡ true) (ap (λ (l : List ℕ). get_or l 1 0) r.1) r.2.B-part,
        subst (λ (s : ℕ). part_of j.R s ≡ true) (ap (λ (l : List ℕ). get_or l 2 0) r.1) r.2.R-part,
      )

module _ (A : Automaton) (a : ℕ) (x : Result) where
  -- a reading goes on the same way with the joins that are parts
  pub read_within : (qs : List ℕ) (o : Option Joins) → read_on A a (wanted x) qs (within x o) ≡ read_on A a (wanted x) qs o
  unfolding read_on within
  read_within qs none = refl
  read_within qs (some k) = by_test (part_of k.B x.B && part_of k.R x.R)
      (λ e. ap (read_on A a (wanted x) qs) (only_if_yes _ (some k) e))
      (λ e. ap (read_on A a (wanted x) qs) (only_if_no _ (some k) e) ∙ sym (fails e (first_reading A a (wanted x) qs k) refl))
    where
      fails : part_of k.B x.B && part_of k.R x.R ≡ false → (o : Option (List ℕ)) → first_reading A a (wanted x) qs k ≡ o → o ≡ none
      fails e none h = refl
      fails e (some ms) h =
          let p = reading_parts A a x qs k h in
          absurd (false≢true (sym e ∙ ap₂ ◌&&◌ p.0 p.1))

-- ---- edges

module _ (A : Automaton) (a : ℕ) (goal : List ℕ) (j : Joins) (S : ℕ) where
  edges_part : (qs : List ℕ) (names sets : ℕ) {n : Numbers} → first_edges A a goal j S qs names sets ≡ some n → part_of sets S ≡ true
  unfolding first_edges
  edges_part [] names sets e = subst (λ (s : ℕ). part_of sets s ≡ true) (eqb-true sets S (only_if_some (eqb sets S) _ e).0) (part_refl sets)
  edges_part (q ∷ qs) names sets e =
      let f = first_of_some (edges_of A q) _ e in
      let m = (map-eq-some_iff (with_edge f.0) (first_edges A a goal j S qs (join names (single (edge_at A f.0).first)) (join sets (edge_at A f.0).S))).0 f.1 in
      part_trans sets (join sets (edge_at A f.0).S) S (part_join_left sets (edge_at A f.0).S) (edges_part qs _ _ m.1)

  -- a choice of edges whose sets are no part of S fails
  pub edges_none : (qs : List ℕ) (names sets : ℕ) → part_of sets S ≡ false → first_edges A a goal j S qs names sets ≡ none
  edges_none qs names sets e = go (first_edges A a goal j S qs names sets) refl
    where
      go : (o : Option Numbers) → first_edges A a goal j S qs names sets ≡ o → o ≡ none
      go none h = refl
      go (some n) h = absurd (false≢true (sym e ∙ edges_part qs names sets h))
