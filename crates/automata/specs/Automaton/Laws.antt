-- Moves, edges and entries by number: what it means to be the number of one, and the lists of such numbers; the entry that an order-1
-- state is; entries as edges.
-- Assumes nothing.
use Rattle.std.specs.Prelude.{ℕ, zero, suc, ◌+◌, ◌-◌, ◌<◌, ◌≤◌, true, ◌≡◌, refl, ◌⊎◌, get_or, leb, ltb}
use Rattle.std.proofs.Math.Bool.{◌&&◌}
use Rattle.std.proofs.lemmas.Bool.{false≢true}
use Rattle.std.proofs.Math.Path.{ap}
use Rattle.std.proofs.Common.{ap₂, sym, ◌∙◌, not-suc-le-zero, le_of_suc-le-suc, add-zero}
use Rattle.std.proofs.Math.Logic.{inl, inr}
use Rattle.std.proofs.Math.Option.{some, none-ne-some}
use mathlib.Core.List.{List, [], ◌∷◌, ◌++◌, Memᴰ}
use native.Mathlib.Omega.{arith}
use Rattle.std.proofs.Math.ListN.{length, get_elem?, length-append, get_or-append}
use Rattle.std.proofs.Math.Seq.{get_or-append-add}
use Rattle.std.proofs.Math.Dec.{eqb}
use borrow.Author.Tests.{eqb-true, eq-eqb, leb-true, le-leb, ltb-true, ltb-false}
use Rattle.words.specs.Laws.Tests.{by_test, and_left, and_right}
use Rattle.words.specs.Laws.Options.{by_option}
use Rattle.words.specs.Lists.Laws.{get_or_in, in_get_or, get_elem?_below, get_elem?_some, places_in, places_out}
use Rattle.automata.specs.Automaton.{Automaton, Move, Edge, Entry, no_move, no_edge, no_entry, entry_key, entry_edges, edges, edge_at, move_at, edges_of, moves_of, entry_at, entry_of, entry_control, entry_set, entry_edge}

-- ---- moves

module _ (A : Automaton) where
  pub move_at_in : (i : ℕ) → i < length A.moves → Memᴰ (move_at A i) A.moves
  unfolding move_at
  move_at_in i h = get_or_in A.moves i no_move h

  pub in_move_at : {m : Move} → Memᴰ m A.moves → (i : ℕ) × (i < length A.moves) × (move_at A i ≡ m)
  unfolding move_at
  in_move_at j = let (i, h, e) = in_get_or j in (i, h, e no_move)

  -- move i is a move of order-1 state r on symbol a
  pub record MoveOf (a r i : ℕ) : Type 0 where
    pub below : i < length A.moves
    pub state_is : (move_at A i).state ≡ r
    pub symbol_is : (move_at A i).symbol ≡ a

  pub moves_of_out : (r a : ℕ) {i : ℕ} → Memᴰ i (moves_of A r a) → MoveOf a r i
  unfolding moves_of move_at
  moves_of_out r a {i} j =
      let h = places_out (λ m. eqb m.state r && eqb m.symbol a) A.moves no_move j in
      record {
        below = h.0;
        state_is = eqb-true _ _ (and_left (eqb (move_at A i).state r) _ h.1);
        symbol_is = eqb-true _ _ (and_right (eqb (move_at A i).state r) _ h.1);
      }

  pub moves_of_in : {a r i : ℕ} → MoveOf a r i → Memᴰ i (moves_of A r a)
  unfolding moves_of move_at
  moves_of_in {a} {r} {i} h =
      places_in (λ m. eqb m.state r && eqb m.symbol a) A.moves no_move i h.below
      (ap₂ ◌&&◌ (eq-eqb _ _ h.state_is) (eq-eqb _ _ h.symbol_is))

-- ---- the entry that an order-1 state is

-- entry [p,S]
abbrev pub entry : ℕ → ℕ → Entry
entry p S = record { control = p; S = S }

pub entry_key_eq : (d e : Entry) → entry_key d ≡ entry_key e → d ≡ e
unfolding entry_key
entry_key_eq d e h =
    let p : d.control ≡ e.control = cc in
    let q : d.S ≡ e.S = cc in
    ap₂ entry p q

module _ (A : Automaton) where
  pub entry_at_entry : (e : ℕ) → entry_at A (A.J + e) ≡ get_elem? A.entries e
  unfolding entry_at
  entry_at_entry e =
      let z : A.J + e - A.J ≡ e = omega arith in
      rw (entry_at, le-leb A.J (A.J + e) (omega arith), z)

  pub entry_at_some : (r : ℕ) {x : Entry} → entry_at A r ≡ some x → (e : ℕ) × (r ≡ A.J + e) × (get_elem? A.entries e ≡ some x)
  unfolding entry_at
  entry_at_some r {x} h = by_test (leb A.J r)
      (λ t. let l : A.J ≤ r = leb-true _ _ t in let z : r ≡ A.J + (r - A.J) = omega arith in (r - A.J, z, rw (entry_at, t) at h))
      (λ t. absurd (none-ne-some x (rw (entry_at, t) at h)))

  -- such a state is in range
  pub entry_at_range : (r : ℕ) {x : Entry} → entry_at A r ≡ some x → (A.J ≤ r) × (r < A.J + length A.entries)
  entry_at_range r h =
      let (e, z, g) = entry_at_some r h in
      let l : e < length A.entries = (get_elem?_some A.entries e g).0 in
      (omega arith, omega arith)

  pub entry_at_of : (r p : ℕ) {x : Entry} → entry_at A r ≡ some x → entry_of A p r ≡ eqb x.control p
  unfolding entry_of
  entry_at_of r p h = rw (entry_of, h)

  pub entry_at_control : (r : ℕ) {x : Entry} → entry_at A r ≡ some x → entry_control A r ≡ x.control
  unfolding entry_control
  entry_at_control r h = rw (entry_control, h)

  pub entry_at_set : (r : ℕ) {x : Entry} → entry_at A r ≡ some x → entry_set A r ≡ x.S
  unfolding entry_set
  entry_at_set r h = rw (entry_set, h)

  pub entry_of_entry : (p r : ℕ) → entry_of A p r ≡ true → entry_at A r ≡ some (entry p (entry_set A r))
  unfolding entry_of
  entry_of_entry p r h = by_option (entry_at A r)
      (λ z. absurd (false≢true (rw (entry_of, z) at h)))
      (λ x z. z ∙ ap some (ap₂ entry (eqb-true x.control p (sym (entry_at_of r p z) ∙ h)) (sym (entry_at_set r z))))

  -- ---- entries

  -- entry e is [p,S]
  pub record EntryIs (p S e : ℕ) : Type 0 where
    pub below : e < length A.entries
    pub control_is : (get_or A.entries e no_entry).control ≡ p
    pub set_is : (get_or A.entries e no_entry).S ≡ S

  -- exactly if it is the entry that its order-1 state is
  pub entry_is_at : {p S e : ℕ} → EntryIs p S e → entry_at A (A.J + e) ≡ some (entry p S)
  entry_is_at {e = e} h = entry_at_entry e ∙ get_elem?_below A.entries e no_entry h.below ∙ ap some (ap₂ entry h.control_is h.set_is)

  pub get_entry_is : {p S e : ℕ} → get_elem? A.entries e ≡ some (entry p S) → EntryIs p S e
  get_entry_is {e = e} h =
      let (l, y) = get_elem?_some A.entries e h in
      record { below = l; control_is = ap (λ (x : Entry). x.control) (y no_entry); set_is = ap (λ (x : Entry). x.S) (y no_entry) }

  pub at_entry_is : (r : ℕ) {p S : ℕ} → entry_at A r ≡ some (entry p S) → (e : ℕ) × (r ≡ A.J + e) × EntryIs p S e
  at_entry_is r h = let (e, z, g) = entry_at_some r h in (e, z, get_entry_is g)

  pub entry_set_is : {p S e : ℕ} → EntryIs p S e → entry_set A (A.J + e) ≡ S
  entry_set_is {e = e} h = entry_at_set (A.J + e) (entry_is_at h)

  pub entry_control_is : {p S e : ℕ} → EntryIs p S e → entry_control A (A.J + e) ≡ p
  entry_control_is {e = e} h = entry_at_control (A.J + e) (entry_is_at h)

  pub entry_of_in : {p S e : ℕ} → EntryIs p S e → entry_of A p (A.J + e) ≡ true
  entry_of_in {p} {e = e} h = entry_at_of (A.J + e) p (entry_is_at h) ∙ eq-eqb p p refl

  pub entry_of_out : (p r : ℕ) → entry_of A p r ≡ true → (e : ℕ) × (r ≡ A.J + e) × EntryIs p (entry_set A r) e
  entry_of_out p r h = at_entry_is r (entry_of_entry p r h)

  -- move i is a move on b of entry [p,S]
  pub record EntryMove (p S b i : ℕ) : Type 0 where
    pub below : i < length A.moves
    pub symbol_is : (move_at A i).symbol ≡ b
    pub entry : ℕ
    pub state_is : (move_at A i).state ≡ A.J + entry
    pub entry_is : EntryIs p S entry

  pub entry_move_of : {p S b i : ℕ} (h : EntryMove p S b i) → MoveOf A b (A.J + h.entry) i
  entry_move_of h = record { below = h.below; state_is = h.state_is; symbol_is = h.symbol_is }

  pub entry_move_at : {p S b i : ℕ} → EntryMove p S b i → entry_at A (move_at A i).state ≡ some (entry p S)
  entry_move_at h = ap (entry_at A) h.state_is ∙ entry_is_at h.entry_is

  pub entry_move_set : {p S b i : ℕ} → EntryMove p S b i → entry_set A (move_at A i).state ≡ S
  entry_move_set {i = i} h = entry_at_set (move_at A i).state (entry_move_at h)

-- ---- edges

pub length_entry_edges : (r : ℕ) (es : List Entry) → length (entry_edges r es) ≡ length es
unfolding entry_edges
length_entry_edges r [] = refl
length_entry_edges r (x ∷ es) = ap suc (length_entry_edges (suc r) es)

pub entry_edges_at : (r : ℕ) (es : List Entry) (e : ℕ) → e < length es
    → get_or (entry_edges r es) e no_edge ≡ record { state = (get_or es e no_entry).control; first = r + e; S = (get_or es e no_entry).S }
unfolding entry_edges
entry_edges_at r [] e h = absurd (not-suc-le-zero h)
entry_edges_at r (x ∷ es) zero h = ap (λ (n : ℕ). record { state = x.control; first = n; S = x.S }) (sym (add-zero r))
entry_edges_at r (x ∷ es) (suc e) h =
    let k : suc r + e ≡ r + suc e = omega arith in
    entry_edges_at (suc r) es e (le_of_suc-le-suc h)
    ∙ ap (λ (n : ℕ). record { state = (get_or es e no_entry).control; first = n; S = (get_or es e no_entry).S }) k

pub entry_edges_append : (r : ℕ) (xs ys : List Entry) → entry_edges r (xs ++ ys) ≡ entry_edges r xs ++ entry_edges (r + length xs) ys
unfolding entry_edges
entry_edges_append r [] ys = ap (λ (n : ℕ). entry_edges n ys) (sym (add-zero r))
entry_edges_append r (x ∷ xs) ys =
    let k : suc r + length xs ≡ r + suc (length xs) = omega arith in
    ap (λ (l : List Edge). record { state = x.control; first = r; S = x.S } ∷ l)
    (entry_edges_append (suc r) xs ys ∙ ap (λ (n : ℕ). entry_edges (suc r) xs ++ entry_edges n ys) k)

module _ (A : Automaton) where
  -- edge e is an edge of order-2 state q
  pub record EdgeOf (q e : ℕ) : Type 0 where
    pub below : e < length (edges A)
    pub state_is : (edge_at A e).state ≡ q

  pub edges_of_out : (q : ℕ) {e : ℕ} → Memᴰ e (edges_of A q) → EdgeOf q e
  unfolding edges_of edge_at
  edges_of_out q {e} j =
      let h = places_out (λ e. eqb e.state q) (edges A) no_edge j in
      record { below = h.0; state_is = eqb-true _ _ h.1 }

  pub edges_of_in : {q e : ℕ} → EdgeOf q e → Memᴰ e (edges_of A q)
  unfolding edges_of edge_at
  edges_of_in {q} {e} h = places_in (λ e. eqb e.state q) (edges A) no_edge e h.below (eq-eqb _ _ h.state_is)

  pub length_edges : length (edges A) ≡ length A.inner + length A.entries
  unfolding edges
  length_edges = length-append A.inner _ ∙ ap (λ (n : ℕ). length A.inner + n) (length_entry_edges A.J A.entries)

  pub edge_at_inner : (i : ℕ) → i < length A.inner → edge_at A i ≡ get_or A.inner i no_edge
  unfolding edge_at edges
  edge_at_inner i h = get_or-append A.inner _ no_edge i h

  -- an edge is an inner edge or an entry
  pub edge_cases : (i : ℕ) → i < length (edges A) → (i < length A.inner) ⊎ ((e : ℕ) × (e < length A.entries) × (i ≡ entry_edge A e))
  unfolding entry_edge
  edge_cases i h = by_test (ltb i (length A.inner))
      (λ y. inl (ltb-true i (length A.inner) y))
      (λ n.
      let l : length A.inner ≤ i = ltb-false i (length A.inner) n in
      let k = length_edges in
      inr (i - length A.inner, omega arith, omega arith))

  -- edge i is entry e, which is [p,S]
  pub record EntryEdge (p S e i : ℕ) : Type 0 where
    pub number_is : i ≡ entry_edge A e
    pub edge : EdgeOf p i
    pub first_is : (edge_at A i).first ≡ A.J + e
    pub set_is : (edge_at A i).S ≡ S
    pub entry : EntryIs A p S e

  -- an entry is an edge of its control
  pub entry_edge_lem : {p S e : ℕ} → EntryIs A p S e → EntryEdge p S e (entry_edge A e)
  unfolding entry_edge edge_at edges
  entry_edge_lem {e = e} h =
      let k = length_edges in
      let b : e < length A.entries = h.below in
      let x = get_or-append-add A.inner (entry_edges A.J A.entries) e no_edge ∙ entry_edges_at A.J A.entries e b in
      record {
        number_is = refl;
        edge = record { below = omega arith; state_is = ap (λ (z : Edge). z.state) x ∙ h.control_is };
        first_is = ap (λ (z : Edge). z.first) x;
        set_is = ap (λ (z : Edge). z.S) x ∙ h.set_is;
        entry = h;
      }
