-- The numbers that derivations choose: those of moves and entries of a control, and a list with one number for each member of a set, which
-- is what a reading and a choice of edges are.
-- Assumes nothing.
use Rattle.std.specs.Prelude.{ℕ, ◌<◌, true, ◌≡◌, get_or}
use Rattle.std.proofs.Math.Bool.{◌&&◌}
use Rattle.std.proofs.Math.Path.{refl}
use Rattle.std.proofs.Common.{ap, ap₂, sym, ◌∙◌, subst, arith}
use mathlib.Core.List.Memᴰ
use mathlib.Core.List.{List, [], ◌∷◌, map, Memᴰ}
use Rattle.std.proofs.Math.Dec.{eqb}
use borrow.Author.Tests.{eqb-true, eq-eqb}
use Rattle.words.specs.Laws.Tests.{and_left, and_right}
use Rattle.words.specs.Sets.{members}
use Rattle.words.specs.Order.{rising}
use Rattle.words.specs.Order.Laws.{rising_from_less, rising_tail, rising_cons, one_less}
use Rattle.words.specs.Lists.{choices}
use Rattle.words.specs.Lists.Laws.{places_in, places_out}
use Rattle.words.specs.Lists.Choices.{OneOfEach, choices_in_lem, choices_out}
use Rattle.automata.specs.Automaton.{Automaton, no_move, no_entry, move_at, edges_of, moves_of, entry_of, entry_set}
use Rattle.automata.specs.Automaton.Laws.{MoveOf, EdgeOf, EntryIs, EntryMove, moves_of_in, moves_of_out, edges_of_in, edges_of_out, entry_of_in, entry_of_out}
use Rattle.automata.specs.Derivation.{readings, edge_choices, control_moves, control_entries}

-- ---- entries and moves of a control

module _ (A : Automaton) where
  pub control_entries_out : (p : ℕ) {e : ℕ} → Memᴰ e (control_entries A p) → EntryIs A p (get_or A.entries e no_entry).S e
  unfolding control_entries
  control_entries_out p {e} j =
      let h = places_out (λ e. eqb e.control p) A.entries no_entry j in
      record { below = h.0; control_is = eqb-true _ _ h.1; set_is = refl }

  pub control_entries_in : {p S e : ℕ} → EntryIs A p S e → Memᴰ e (control_entries A p)
  unfolding control_entries
  control_entries_in {p} {S} {e} h = places_in (λ e. eqb e.control p) A.entries no_entry e h.below (eq-eqb _ _ h.control_is)

  pub control_moves_out : (p b : ℕ) {i : ℕ} → Memᴰ i (control_moves A p b) → EntryMove A p (entry_set A (move_at A i).state) b i
  unfolding control_moves move_at
  control_moves_out p b {i} j =
      let h = places_out (λ m. eqb m.symbol b && entry_of A p m.state) A.moves no_move j in
      let x = entry_of_out A p (move_at A i).state (and_right (eqb (move_at A i).symbol b) _ h.1) in
      record {
        below = h.0;
        symbol_is = eqb-true _ _ (and_left (eqb (move_at A i).symbol b) _ h.1);
        entry = x.0;
        state_is = x.1;
        entry_is = x.2;
      }

  pub control_moves_in : {p S b i : ℕ} → EntryMove A p S b i → Memᴰ i (control_moves A p b)
  unfolding control_moves move_at
  control_moves_in {p} {S} {b} {i} h =
      places_in (λ m. eqb m.symbol b && entry_of A p m.state) A.moves no_move i h.below
      (ap₂ ◌&&◌ (eq-eqb _ _ h.symbol_is) (ap (entry_of A p) h.state_is ∙ entry_of_in A h.entry_is))

-- ---- one number for each state

-- ns has one number for each state of qs, and X holds of the two
pub data Paired (X : ℕ → ℕ → Type 0) : List ℕ → List ℕ → Type 0 where
  empty : Paired X [] []
  also : {q n : ℕ} {qs ns : List ℕ} → X q n → Paired X qs ns → Paired X (q ∷ qs) (n ∷ ns)

pub paired_map : {X Y : ℕ → ℕ → Type 0} {qs ns : List ℕ} → ((q n : ℕ) → X q n → Y q n) → Paired X qs ns → Paired Y qs ns
paired_map f empty = empty
paired_map f (also {q = q} {n = n} x ps) = also (f q n x) (paired_map f ps)

-- where each state has such a number, there is a list of them
pub paired_of : {X : ℕ → ℕ → Type 0} (qs : List ℕ) → ((q : ℕ) → Memᴰ q qs → (n : ℕ) × X q n) → (ns : List ℕ) × Paired X qs ns
paired_of [] f = ([], empty)
paired_of (q ∷ qs) f =
    let x = f q (Memᴰ.head refl) in
    let r = paired_of qs (λ y i. f y (Memᴰ.tail i)) in
    (x.0 ∷ r.0, also x.1 r.1)

-- each number belongs to a state
pub paired_state : {X : ℕ → ℕ → Type 0} {qs ns : List ℕ} {n : ℕ} → Paired X qs ns → Memᴰ n ns → (q : ℕ) × Memᴰ q qs × X q n
paired_state empty j = absurd (Memᴰ.not-nil j)
paired_state {X = X} (also {q = q} x ps) (Memᴰ.head e) = (q, Memᴰ.head refl, subst (X q) (sym e) x)
paired_state (also x ps) (Memᴰ.tail j) = let r = paired_state ps j in (r.0, Memᴰ.tail r.1, r.2)

-- each state has a number
pub paired_number : {X : ℕ → ℕ → Type 0} {qs ns : List ℕ} {q : ℕ} → Paired X qs ns → Memᴰ q qs → (n : ℕ) × Memᴰ n ns × X q n
paired_number empty j = absurd (Memᴰ.not-nil j)
paired_number {X = X} (also {n = n} x ps) (Memᴰ.head e) = (n, Memᴰ.head refl, subst (λ (y : ℕ). X y n) (sym e) x)
paired_number (also x ps) (Memᴰ.tail j) = let (n, i, y) = paired_number ps j in (n, Memᴰ.tail i, y)

-- later numbers have other states
paired_later : {X : ℕ → ℕ → Type 0} (state_of : ℕ → ℕ) → ((q n : ℕ) → X q n → state_of n ≡ q) → {q : ℕ} {qs ns : List ℕ} → Paired X qs ns
    → rising (λ y. y ∷ []) (q ∷ qs) ≡ true → {n : ℕ} → Memᴰ n ns → state_of n ≡ q → ⊥
paired_later state_of f {q} {qs} ps r {n} j e =
    let (y, i, x) = paired_state ps j in
    let l : q < y = one_less q y (rising_from_less (λ z. z ∷ []) q qs (sym (rising_cons (λ z. z ∷ []) q qs) ∙ r) i) in
    let z : state_of n ≡ y = f y n x in
    omega arith

-- where the states rise and a number determines its state, numbers of one state are equal
pub paired_once : {X : ℕ → ℕ → Type 0} (state_of : ℕ → ℕ) → ((q n : ℕ) → X q n → state_of n ≡ q) → {qs ns : List ℕ} → Paired X qs ns
    → rising (λ q. q ∷ []) qs ≡ true → {m n : ℕ} → Memᴰ m ns → Memᴰ n ns → state_of m ≡ state_of n → m ≡ n
paired_once state_of f empty r i j e = absurd (Memᴰ.not-nil i)
paired_once state_of f (also x ps) r (Memᴰ.head a) (Memᴰ.head b) e = a ∙ sym b
paired_once state_of f (also {q = q} {n = k} x ps) r (Memᴰ.head a) (Memᴰ.tail j) e =
    absurd (paired_later state_of f ps r j (sym e ∙ ap state_of a ∙ f q k x))
paired_once state_of f (also {q = q} {n = k} x ps) r (Memᴰ.tail i) (Memᴰ.head b) e =
    absurd (paired_later state_of f ps r i (e ∙ ap state_of b ∙ f q k x))
paired_once state_of f (also {q = q} {qs = qs} x ps) r (Memᴰ.tail i) (Memᴰ.tail j) e =
    paired_once state_of f ps (rising_tail (λ y. y ∷ []) q qs (sym (rising_cons (λ y. y ∷ []) q qs) ∙ r)) i j e

-- `choices` lists exactly the lists with one number for each state
module _ (X : ℕ → ℕ → Type 0) (numbers : ℕ → List ℕ) where
  pub choices_paired : ((q n : ℕ) → Memᴰ n (numbers q) → X q n) → (qs : List ℕ) {ns : List ℕ} → Memᴰ ns (choices (map numbers qs)) → Paired X qs ns
  choices_paired f qs j = go qs (choices_out (map numbers qs) j)
    where
      go : (qs : List ℕ) {ns : List ℕ} → OneOfEach ns (map numbers qs) → Paired X qs ns
      go [] OneOfEach.none = empty
      go (q ∷ qs) (OneOfEach.also i c) = also (f q _ i) (go qs c)

  pub paired_choices : ((q n : ℕ) → X q n → Memᴰ n (numbers q)) → {qs ns : List ℕ} → Paired X qs ns → Memᴰ ns (choices (map numbers qs))
  paired_choices f ps = choices_in_lem (go ps)
    where
      go : {qs ns : List ℕ} → Paired X qs ns → OneOfEach ns (map numbers qs)
      go empty = OneOfEach.none
      go (also x ps) = OneOfEach.also (f _ _ x) (go ps)

-- a reading is one move for each member, and a choice of edges one edge for each
module _ (A : Automaton) where
  pub readings_out : (a R : ℕ) {ms : List ℕ} → Memᴰ ms (readings A a R) → Paired (MoveOf A a) (members R) ms
  unfolding readings
  readings_out a R j = choices_paired (MoveOf A a) (λ r. moves_of A r a) (λ r i k. moves_of_out A r a k) (members R) j

  pub readings_in : (R : ℕ) {a : ℕ} {ms : List ℕ} → Paired (MoveOf A a) (members R) ms → Memᴰ ms (readings A a R)
  unfolding readings
  readings_in R {a} ps = paired_choices (MoveOf A a) (λ r. moves_of A r a) (λ r i h. moves_of_in A h) ps

  pub edge_choices_out : (S : ℕ) {es : List ℕ} → Memᴰ es (edge_choices A S) → Paired (EdgeOf A) (members S) es
  unfolding edge_choices
  edge_choices_out S j = choices_paired (EdgeOf A) (λ q. edges_of A q) (λ q e k. edges_of_out A q k) (members S) j

  pub edge_choices_in : (S : ℕ) {es : List ℕ} → Paired (EdgeOf A) (members S) es → Memᴰ es (edge_choices A S)
  unfolding edge_choices
  edge_choices_in S ps = paired_choices (EdgeOf A) (λ q. edges_of A q) (λ q e h. edges_of_in A h) ps
