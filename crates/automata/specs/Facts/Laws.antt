-- What the facts of a table say of its moves and edges by number. Extension: it is an order, and an automaton keeps all that an automaton
-- has which it extends, under the same numbers.
-- Assumes nothing.
use Prim.Native.Nat.{ℕ, ◌+◌, ◌-◌, ◌≤◌, ◌<◌}
use Rattle.std.proofs.Math.Bool.{false}
use Rattle.std.specs.Prelude.{◌≡◌, refl, ltb}
use Rattle.std.proofs.Math.Path.{ap, sym}
use Rattle.std.proofs.Common.{◌∙◌, ⊎_elim, length-append}
use Rattle.std.proofs.Math.Option.{some}
use mathlib.Core.List.Memᴰ
use mathlib.Core.List.{List, [], ◌++◌, append-nil, append_assoc, Memᴰ}
use native.Mathlib.Omega.{arith}
use Rattle.std.proofs.Math.ListN.{length, get_or, get_or-append, get_or-eq_default}
use Rattle.std.proofs.Math.Dec.{leb}
use borrow.Author.Tests.{leb-true, ltb-true, ltb-false}
use Rattle.words.specs.Laws.Tests.{by_test}
use Rattle.words.specs.Lists.Laws.{get_or_in, get_elem?_below}
use Rattle.automata.specs.Automaton.{Automaton, Move, Edge, Entry, no_move, no_edge, no_entry, entry_edges, edges, edge_at, move_at, entry_at, entry_edge}
use Rattle.automata.specs.Automaton.Laws.{MoveOf, EdgeOf, EntryIs, EntryMove, EntryEdge, move_at_in, entry_at_entry, entry_at_range, entry_edges_append, edge_at_inner, edge_cases, entry_edge_lem}
use Rattle.automata.specs.Derivation.{joins_of}
use Rattle.automata.specs.Derivation.Joining.{AnnotationFacts, annotation_none}
use Rattle.automata.specs.Facts.{MoveFacts, TableFacts, Extends, states}

-- ---- moves and edges of a table

module _ {P : ℕ} {A : Automaton} (F : TableFacts P A) where
  pub move_at_facts : (i : ℕ) → i < length A.moves → MoveFacts (states A) (move_at A i)
  move_at_facts i h = F.move_facts (move_at A i) (move_at_in A i h)

  -- also of the move past the last
  pub move_at_annotation : (i : ℕ) → AnnotationFacts (joins_of (move_at A i))
  unfolding move_at
  move_at_annotation i = by_test (ltb i (length A.moves))
      (λ t.
      let f = move_at_facts i (ltb-true i (length A.moves) t) in
      record { order_small = f.order_small; none_empty = f.none_empty; empty_none = f.empty_none })
      (λ t. rw (get_or-eq_default A.moves no_move (ltb-false i (length A.moves) t)) (annotation_none 0))

  -- the edges of a control are its entries
  pub control_edge : {p i : ℕ} → p < P → EdgeOf A p i → (e : ℕ) × EntryEdge A p (edge_at A i).S e i
  control_edge {p} {i} l h = ⊎_elim inner entry (edge_cases A i h.below)
    where
      inner : i < length A.inner → (e : ℕ) × EntryEdge A p (edge_at A i).S e i
      inner k =
          let f : P ≤ (get_or A.inner i no_edge).state = (F.inner_facts _ (get_or_in A.inner i no_edge k)).from_inner in
          let g : (get_or A.inner i no_edge).state ≡ p = ap (λ (z : Edge). z.state) (sym (edge_at_inner A i k)) ∙ h.state_is in
          absurd (omega arith)

      entry : (e : ℕ) × (e < length A.entries) × (i ≡ entry_edge A e) → (e : ℕ) × EntryEdge A p (edge_at A i).S e i
      entry (e, b, q) =
          let x = entry_edge_lem A (record { below = b; control_is = refl; set_is = refl }) in (
            e,
            record {
              number_is = q;
              edge = h;
              first_is = ap (λ (k : ℕ). (edge_at A k).first) q ∙ x.first_is;
              set_is = refl;
              entry = record {
                below = b;
                control_is = sym x.edge.state_is ∙ ap (λ (k : ℕ). (edge_at A k).state) (sym q) ∙ h.state_is;
                set_is = sym x.set_is ∙ ap (λ (k : ℕ). (edge_at A k).S) (sym q);
              };
            },
          )

-- ---- extension is an order

pub extends_refl : (A : Automaton) → Extends A A
extends_refl A =
    record {
      same_J = refl;
      same_final1 = refl;
      same_final2 = refl;
      same_inner = refl;
      more_entries = [];
      entries_are = sym (append-nil A.entries);
      more_moves = [];
      moves_are = sym (append-nil A.moves);
    }

pub extends_trans : {A B C : Automaton} → Extends A B → Extends B C → Extends A C
extends_trans {A} x y =
    record {
      same_J = y.same_J ∙ x.same_J;
      same_final1 = y.same_final1 ∙ x.same_final1;
      same_final2 = y.same_final2 ∙ x.same_final2;
      same_inner = y.same_inner ∙ x.same_inner;
      more_entries = x.more_entries ++ y.more_entries;
      entries_are = y.entries_are ∙ ap (λ (l : List Entry). l ++ y.more_entries) x.entries_are
          ∙ append_assoc A.entries x.more_entries y.more_entries;
      more_moves = x.more_moves ++ y.more_moves;
      moves_are = y.moves_are ∙ ap (λ (l : List Move). l ++ y.more_moves) x.moves_are
          ∙ append_assoc A.moves x.more_moves y.more_moves;
    }

-- ---- what an extension keeps: moves

module _ {A C : Automaton} (x : Extends A C) where
  pub moves_more : length C.moves ≡ length A.moves + length x.more_moves
  moves_more = ap length x.moves_are ∙ length-append A.moves x.more_moves

  pub moves_grow : length A.moves ≤ length C.moves
  moves_grow = let e = moves_more in omega arith

  pub move_kept : {m : Move} → Memᴰ m A.moves → Memᴰ m C.moves
  move_kept j = rw x.moves_are (Memᴰ.append_left x.more_moves j)

  pub move_at_kept : (i : ℕ) → i < length A.moves → move_at C i ≡ move_at A i
  unfolding move_at
  move_at_kept i h = ap (λ (l : List Move). get_or l i no_move) x.moves_are ∙ get_or-append A.moves x.more_moves no_move i h

  pub move_of_kept : {a r i : ℕ} → MoveOf A a r i → MoveOf C a r i
  move_of_kept {i = i} h =
      let g = moves_grow in
      let b : i < length A.moves = h.below in
      let e = move_at_kept i b in
      record { below = omega arith; state_is = rw e h.state_is; symbol_is = rw e h.symbol_is }

  -- ---- entries

  pub entries_more : length C.entries ≡ length A.entries + length x.more_entries
  entries_more = ap length x.entries_are ∙ length-append A.entries x.more_entries

  pub entries_grow : length A.entries ≤ length C.entries
  entries_grow = let e = entries_more in omega arith

  pub states_grow : states A ≤ states C
  states_grow = let e = entries_more in let j : C.J ≡ A.J = x.same_J in omega arith

  pub entry_kept : {e : Entry} → Memᴰ e A.entries → Memᴰ e C.entries
  entry_kept j = rw x.entries_are (Memᴰ.append_left x.more_entries j)

  pub get_entry_kept : (e : ℕ) → e < length A.entries → get_or C.entries e no_entry ≡ get_or A.entries e no_entry
  get_entry_kept e h = ap (λ (l : List Entry). get_or l e no_entry) x.entries_are ∙ get_or-append A.entries x.more_entries no_entry e h

  pub entry_is_kept : {p S e : ℕ} → EntryIs A p S e → EntryIs C p S e
  entry_is_kept {e = e} h =
      let g = entries_grow in
      let b : e < length A.entries = h.below in
      let k = get_entry_kept e b in
      record { below = omega arith; control_is = rw k h.control_is; set_is = rw k h.set_is }

  -- an entry of the extension with a number that was there is the entry that was there
  pub entry_is_own : {p S e : ℕ} → e < length A.entries → EntryIs C p S e → EntryIs A p S e
  entry_is_own {e = e} b h =
      let k = get_entry_kept e b in
      record { below = b; control_is = rw (← k) h.control_is; set_is = rw (← k) h.set_is }

  pub entry_move_kept : {p S b i : ℕ} → EntryMove A p S b i → EntryMove C p S b i
  entry_move_kept {i = i} h =
      let g = moves_grow in
      let l : i < length A.moves = h.below in
      let k = move_at_kept i l in
      record {
        below = omega arith;
        symbol_is = rw k h.symbol_is;
        entry = h.entry;
        state_is = rw (k, x.same_J) h.state_is;
        entry_is = entry_is_kept h.entry_is;
      }

  -- ---- the entry that an order-1 state is, and the result that a move stands for

  pub entry_at_same : (r : ℕ) → r < states A → entry_at C r ≡ entry_at A r
  unfolding entry_at
  entry_at_same r h =
      let j : C.J ≡ A.J = x.same_J in
      let g = entries_grow in
      by_test (leb A.J r)
      (λ t.
      let l : A.J ≤ r = leb-true A.J r t in
      let e : ℕ = r - A.J in
      let a : r ≡ A.J + e = omega arith in
      let c : r ≡ C.J + e = omega arith in
      let below : e < length A.entries = omega arith in
      let there : e < length C.entries = omega arith in
      ap (entry_at C) c ∙ entry_at_entry C e ∙ get_elem?_below C.entries e no_entry there
      ∙ ap some (get_entry_kept e below)
      ∙ sym (get_elem?_below A.entries e no_entry below) ∙ sym (entry_at_entry A e) ∙ ap (entry_at A) (sym a))
      (λ t. let u : leb C.J r ≡ false = ap (λ (n : ℕ). leb n r) j ∙ t in rw (entry_at, t, u))

  pub entry_at_kept : (r : ℕ) {e : Entry} → entry_at A r ≡ some e → entry_at C r ≡ some e
  entry_at_kept r h = entry_at_same r (entry_at_range A r h).1 ∙ h

  -- ---- edges

  pub edges_more : edges C ≡ edges A ++ entry_edges (states A) x.more_entries
  unfolding edges
  edges_more = rw (x.same_inner, x.same_J, x.entries_are, entry_edges_append A.J A.entries x.more_entries) (sym (append_assoc A.inner _ _))

  pub edge_at_kept : (i : ℕ) → i < length (edges A) → edge_at C i ≡ edge_at A i
  unfolding edge_at
  edge_at_kept i h = ap (λ (l : List Edge). get_or l i no_edge) edges_more ∙ get_or-append (edges A) _ no_edge i h

  pub edge_of_kept : {q i : ℕ} → EdgeOf A q i → EdgeOf C q i
  edge_of_kept {i = i} h =
      let more : List Edge = entry_edges (states A) x.more_entries in
      let l : length (edges C) ≡ length (edges A) + length more = ap length edges_more ∙ length-append (edges A) more in
      let b : i < length (edges A) = h.below in
      record { below = omega arith; state_is = rw (edge_at_kept i b) h.state_is }
