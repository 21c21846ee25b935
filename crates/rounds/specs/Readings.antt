-- Where one automaton contains another, readings and choices of edges of the one have their like in the other.
-- Assumes nothing.
use Rattle.std.specs.Prelude.{ℕ, ◌+◌, ◌<◌, ◌≡◌, refl, length, get_or}
use Rattle.std.proofs.Common.{ap, sym, ◌∙◌, subst, ⊎_elim, arith}
use Rattle.std.proofs.Math.Path.{ap₂}
use mathlib.Core.List.{List, [], ◌∷◌, map, Memᴰ}
use Rattle.words.specs.Sets.{join, members}
use Rattle.words.proofs.Sets.Laws.{has_in, in_has, members_rising}
use Rattle.words.specs.Lists.Laws.{get_or_in, in_get_or}
use Rattle.automata.specs.Automaton.{Automaton, Move, Edge, no_edge, no_entry, edges, move_at, edge_at, entry_edge}
use Rattle.automata.specs.Automaton.Laws.{MoveOf, EdgeOf, EntryIs, EntryMove, move_at_in, in_move_at, entry_is_at, at_entry_is, length_edges, edge_at_inner, entry_edge_lem, edge_cases}
use Rattle.automata.specs.Derivation.{named, edge_sets}
use Rattle.automata.specs.Derivation.Numbers.{Paired, empty, also, paired_map, paired_of, paired_state, paired_number, paired_once}
use Rattle.automata.specs.Facts.{TableFacts, Once}
use Rattle.rounds.specs.Contains.{Matched, Same, inner, entry, SameMove, Contains}
use Rattle.rounds.specs.Contains.Laws.{matched_empty, matched_single, matched_join, same_function, same_injective}
use Rattle.rounds.specs.Joining.{SameMoves}

-- ---- readings

module _ {A C : Automaton} (c : Contains A C) where
  -- each move has its like
  pub move_same : (i : ℕ) → i < length A.moves → (n : ℕ) × (n < length C.moves) × SameMove A C (move_at A i) (move_at C n)
  move_same i l =
      let (m, j, s) = c.moves_in_holds (move_at A i) (move_at_in A i l) in
      let (n, h, e) = in_move_at C j in
      (n, h, rw e s)

  module _ (onceA : Once A.entries) (onceC : Once C.entries) where
    pub move_of_same : {a r s i : ℕ} → Same A C r s → MoveOf A a r i → (n : ℕ) × MoveOf C a s n × SameMove A C (move_at A i) (move_at C n)
    move_of_same {i = i} z h =
        let (n, l, t) = move_same i h.below in
        let x = subst (λ (y : ℕ). Same A C y (move_at C n).state) h.state_is t.state_same in
        (n, record { below = l; state_is = same_function onceC x z; symbol_is = t.symbol_same ∙ h.symbol_is }, t)

    -- move n of C is a move of s on a, and the like of one of these moves of A
    record LikeReading (a : ℕ) (ms : List ℕ) (s n : ℕ) : Type 0 where
      move_of_holds : MoveOf C a s n
      number : ℕ
      there : Memᴰ number ms
      same : SameMove A C (move_at A number) (move_at C n)

    -- Both ways: a state of R' is the like of one state of R, which has one move in the reading.
    like_moves : {a R R' : ℕ} {ms ns : List ℕ} → Matched (Same A C) R R' → Paired (MoveOf A a) (members R) ms → Paired (LikeReading a ms) (members R') ns
        → SameMoves A C (map (λ i. move_at A i) ms) (map (λ i. move_at C i) ns)
    like_moves {a} {R} {R'} {ms} {ns} z ps qs = record { forth = forth; back = back }
      where
        forth : (m : Move) → Memᴰ m (map (λ i. move_at A i) ms) → (n : Move) × Memᴰ n (map (λ i. move_at C i) ns) × SameMove A C m n
        forth m j =
            let (i, k, e) = mathlib.Core.List.Memᴰ.of_map (λ i. move_at A i) ms j in
            let (r, l, x) = paired_state ps k in
            let (s, h, t) = z.forth r (in_has R l) in
            let (n, g, y) = paired_number qs (has_in h) in
            let u : Same A C (move_at A y.number).state s = subst (Same A C (move_at A y.number).state) y.move_of_holds.state_is y.same.state_same in
            let q : y.number ≡ i = paired_once (λ i. (move_at A i).state) (λ r i x. x.state_is) ps (members_rising R) y.there k
            (same_injective c.same_J onceA u t ∙ sym x.state_is) in
            (move_at C n, mathlib.Core.List.Memᴰ.map (λ i. move_at C i) g, subst (λ (w : Move). SameMove A C w (move_at C n)) (ap (move_at A) q ∙ e) y.same)

        back : (n : Move) → Memᴰ n (map (λ i. move_at C i) ns) → (m : Move) × Memᴰ m (map (λ i. move_at A i) ms) × SameMove A C m n
        back n j =
            let (i, k, e) = mathlib.Core.List.Memᴰ.of_map (λ i. move_at C i) ns j in
            let (s, l, y) = paired_state qs k in
            (move_at A y.number, mathlib.Core.List.Memᴰ.map (λ i. move_at A i) y.there, subst (SameMove A C (move_at A y.number)) e y.same)

    pub reading_same : {a R R' : ℕ} {ms : List ℕ} → Matched (Same A C) R R' → Paired (MoveOf A a) (members R) ms
        → (ns : List ℕ) × Paired (MoveOf C a) (members R') ns × SameMoves A C (map (λ i. move_at A i) ms) (map (λ i. move_at C i) ns)
    reading_same {a} {R} {R'} {ms} z ps = go (paired_of (members R') like)
      where
        like : (s : ℕ) → Memᴰ s (members R') → (n : ℕ) × LikeReading a ms s n
        like s j =
            let (r, h, t) = z.back s (in_has R' j) in
            let (i, k, x) = paired_number ps (has_in h) in
            let (n, y, m) = move_of_same t x in
            (n, record { move_of_holds = y; number = i; there = k; same = m })

        go : (ns : List ℕ) × Paired (LikeReading a ms) (members R') ns
            → (ns : List ℕ) × Paired (MoveOf C a) (members R') ns × SameMoves A C (map (λ i. move_at A i) ms) (map (λ i. move_at C i) ns)
        go (ns, qs) = (ns, paired_map (λ s n y. y.move_of_holds) qs, like_moves z ps qs)

-- ---- entries and edges

pub record SameEdge (A C : Automaton) (e f : Edge) : Type 0 where
  pub state_same : f.state ≡ e.state
  pub first_same : Same A C e.first f.first
  pub set_same : f.S ≡ e.S

module _ {A C : Automaton} (c : Contains A C) where
  pub entry_same : {p S e : ℕ} → EntryIs A p S e → (n : ℕ) × EntryIs C p S n × Same A C (A.J + e) (C.J + n)
  entry_same {p} {S} {e} h =
      let (n, l, g) = in_get_or (c.entries_in (get_or A.entries e no_entry) (get_or_in A.entries e no_entry h.below)) in
      let y : get_or C.entries n no_entry ≡ get_or A.entries e no_entry = g no_entry in
      let k : EntryIs C p S n = record { below = l; control_is = rw y h.control_is; set_is = rw y h.set_is } in
      (n, k, entry (entry_is_at A h) (entry_is_at C k))

  -- the like of an entry [p,S] is an entry [p,S]
  pub entry_is_same : {p S e s : ℕ} → EntryIs A p S e → Same A C (A.J + e) s → (n : ℕ) × (s ≡ C.J + n) × EntryIs C p S n
  entry_is_same h (inner l q) = absurd (omega arith)
  entry_is_same {p} {S} {s = s} h (entry {e = x} f g) = at_entry_is C s (g ∙ sym f ∙ entry_is_at A h)

  pub entry_move_same : {p S b i : ℕ} → EntryMove A p S b i → (n : ℕ) × EntryMove C p S b n × SameMove A C (move_at A i) (move_at C n)
  entry_move_same {i = i} h =
      let (n, l, t) = move_same c i h.below in
      let (e, q, k) = entry_is_same h.entry_is (subst (λ (r : ℕ). Same A C r (move_at C n).state) h.state_is t.state_same) in
      (n, record { below = l; symbol_is = t.symbol_same ∙ h.symbol_is; entry = e; state_is = q; entry_is = k }, t)

  module _ {P : ℕ} (F : TableFacts P A) where
    pub edge_same : (i : ℕ) → i < length (edges A) → (n : ℕ) × (n < length (edges C)) × SameEdge A C (edge_at A i) (edge_at C n)
    edge_same i l = ⊎_elim of_inner of_entry (edge_cases A i l)
      where
        of_inner : i < length A.inner → (n : ℕ) × (n < length (edges C)) × SameEdge A C (edge_at A i) (edge_at C n)
        of_inner k =
            let x : Edge = get_or A.inner i no_edge in
            let j : Memᴰ x A.inner = get_or_in A.inner i no_edge k in
            let (n, h, g) = in_get_or (c.inner_in x j) in
            let z : edge_at C n ≡ edge_at A i = edge_at_inner C n h ∙ g no_edge ∙ sym (edge_at_inner A i k) in
            let m = length_edges C in
            let f : (edge_at A i).first < A.J = rw (edge_at_inner A i k) (F.inner_facts x j).to_inner in (
              n,
              omega arith,
              record {
                state_same = ap (λ (y : Edge). y.state) z;
                first_same = inner f (ap (λ (y : Edge). y.first) z);
                set_same = ap (λ (y : Edge). y.S) z;
              },
            )

        of_entry : (e : ℕ) × (e < length A.entries) × (i ≡ entry_edge A e) → (n : ℕ) × (n < length (edges C)) × SameEdge A C (edge_at A i) (edge_at C n)
        of_entry (e, b, q) =
            let h : EntryIs A (get_or A.entries e no_entry).control (get_or A.entries e no_entry).S e = record { below = b; control_is = refl; set_is = refl } in
            let (n, k, t) = entry_same h in
            let x = entry_edge_lem A h in
            let y = entry_edge_lem C k in (
              entry_edge C n,
              y.edge.below,
              rw q (record {
                state_same = y.edge.state_is ∙ sym x.edge.state_is;
                first_same = rw (x.first_is, y.first_is) t;
                set_same = y.set_is ∙ sym x.set_is;
              }),
            )

    pub edges_same : {qs es : List ℕ} → Paired (EdgeOf A) qs es
        → (fs : List ℕ) × Paired (EdgeOf C) qs fs × Matched (Same A C) (named A es) (named C fs) × (edge_sets C fs ≡ edge_sets A es)
    unfolding named edge_sets
    edges_same empty = ([], empty, matched_empty (Same A C), refl)
    edges_same (also {n = e} x ps) =
        let (n, l, t) = edge_same e x.below in
        let (fs, qs, m, z) = edges_same ps in (
          n ∷ fs,
          also (record { below = l; state_is = t.state_same ∙ x.state_is }) qs,
          matched_join (matched_single (Same A C) (edge_at A e).first (edge_at C n).first t.first_same) m,
          ap₂ join t.set_same z,
        )
