-- Moves of round 0, inner edges and final states: their sets are inner, so the own automaton accepts, and a walk whose chosen move is from
-- round 0, or that needs no move, is in the target.
-- Assumes nothing.
use Rattle.std.specs.Prelude.{ℕ, ◌+◌, ◌<◌, ◌≤◌, ◌≡◌, refl}
use Rattle.std.proofs.Math.Path.{ap}
use Rattle.std.proofs.Common.{sym, ◌∙◌, subst}
use Rattle.std.proofs.Math.Logic.{⊎_elim}
use mathlib.Core.List.{List, Memᴰ}
use native.Mathlib.Omega.{arith}
use Rattle.std.proofs.Math.ListN.{length, get_or}
use Rattle.words.proofs.Sets.Laws.{Has, All}
use Rattle.words.specs.Lists.Laws.{get_or_in}
use Rattle.stacks.specs.Stack.{Stack1, nil1, cons1, nil2, cons2}
use Rattle.stacks.specs.System.{Rule}
use Rattle.automata.specs.Automaton.{Automaton, Move, Edge, no_edge, no_entry, edges, move_at, edge_at, entry_edge}
use Rattle.automata.specs.Automaton.Laws.{MoveOf, EdgeOf, EntryIs, move_at_in, entry_edge_lem, edge_cases, edge_at_inner, length_edges}
use Rattle.automata.specs.Acceptance.{in_target}
use Rattle.automata.proofs.Acceptance.Laws.{Accepts1, Accepts2, AcceptsAnnotation, accepts2_in, annotation_any}
use Rattle.automata.specs.Facts.{states}
use Rattle.automata.specs.Facts.Laws.{control_edge, move_at_kept, edge_at_kept, entry_is_own}
use Rattle.automata.specs.Saturation.{Saturated}
use Rattle.soundness.specs.Decorated.{Decorated1, nil1', cons1', Decorated2, nil2', cons2', DecoratedAnnotation, erase1, erase2, erase_annotation, erased, Arrives, here}
use Rattle.soundness.specs.Facts.{SaturatedFacts}
use Rattle.soundness.specs.Meaning.{Ok1, Ok2, OkAnnotation, any, one, two}
use Rattle.soundness.specs.Step.{empty_arrived, empty_top_arrived, next_arrived}

module _ {P : ℕ} {own : Automaton} {rules : List Rule} {T : Saturated} (F : SaturatedFacts P own rules T) where
  abbrev table : Automaton
  table = T.table

  -- the annotation is as a move of round 0 asks
  pub annotation_own : (m : Move) → Memᴰ m own.moves → {u : DecoratedAnnotation} → OkAnnotation F m.order m.B u → AcceptsAnnotation own (erase_annotation u) m.order m.B
  unfolding Accepts1 erase1
  annotation_own m i {u} (any e) = annotation_any own (erase_annotation u) m.order m.B e
  annotation_own m i (one {w = w} e f) =
      let g = F.own_inner.annotation1_inner m i e in
      rw e (λ r h. (f r h).inner (subst (λ (j : ℕ). r < j) (sym F.extends.same_J) (g r h)))
  annotation_own m i (two {t = t} e f) =
      let g = F.own_inner.annotation2_inner m i e in
      rw e (λ q h. (f q h).inner (g q h))

  -- a move of round 0 makes the own automaton accept
  pub own_accepts : {a r i : ℕ} {u : DecoratedAnnotation} {s : Decorated1} → i < length own.moves → MoveOf table a r i
      → OkAnnotation F (move_at table i).order (move_at table i).B u → All (move_at table i).R (λ q. Ok1 F q s)
      → Accepts1 own (cons1 a (erase_annotation u) (erase1 s)) r
  unfolding Accepts1
  own_accepts {i = i} {u = u} {s = s} l h x y =
      let e = move_at_kept F.extends i l in
      let g = F.own_inner.rest_inner (move_at own i) (move_at_in own i l) in
      let x' : OkAnnotation F (move_at own i).order (move_at own i).B u = rw e at x in
      let y' : All (move_at own i).R (λ q. Ok1 F q s) = rw e at y in
      record {
        number = i;
        move = record { below = l; state_is = rw e at h.state_is; symbol_is = rw e at h.symbol_is };
        annotation = annotation_own (move_at own i) (move_at_in own i l) x';
        rest = λ q k. (y' q k).inner (subst (λ (j : ℕ). q < j) (sym F.extends.same_J) (g q k));
      }

  -- an own entry [p,S] that accepts the top makes p accept, where S is right about the rest
  entry_accepts : (w : Stack1) {p S e : ℕ} {t : Decorated2} → EntryIs own p S e → Accepts1 own w (table.J + e) → All S (λ q. Ok2 F q t)
      → Accepts2 own (cons2 w (erase2 t)) p
  unfolding Accepts1
  entry_accepts w {e = e} E a z =
      let c = entry_edge_lem own E in
      let first : (edge_at own (entry_edge own e)).first ≡ table.J + e = c.first_is ∙ ap (λ (j : ℕ). j + e) (sym F.extends.same_J) in
      let inner = F.own_inner.entry_inner (get_or own.entries e no_entry) (get_or_in own.entries e no_entry E.below) in
      record {
        number = entry_edge own e;
        edge = c.edge;
        first = rw first a;
        rest = rw c.set_is (λ q n. (z q n).inner (inner q (rw E.set_is n)));
      }

  -- a walk whose chosen move is from round 0 has arrived, in the target
  pub own_arrives : (p S e i a : ℕ) (u : DecoratedAnnotation) (s : Decorated1) (f : ℕ → ℕ) (t : Decorated2) (g : ℕ → ℕ) → i < length own.moves
      → MoveOf table a (table.J + e) i → EntryIs table p S e
      → OkAnnotation F (move_at table i).order (move_at table i).B u → All (move_at table i).R (λ q. Ok1 F q s)
      → All S (λ q. Ok2 F q t) → f (edge_at table (g p)).first ≡ i
      → Arrives rules T own (record { control = p; stack = cons2' (cons1' a u s f) t g })
  unfolding Accepts1 in_target erased erase1
  own_arrives p S e i a u s f t g l h k x y z c =
      let b : i < length own.moves = l in
      let n : f (edge_at table (g p)).first < length own.moves = omega arith in
      here (next_arrived own rules T p a u s f t g (rw F.own_moves_holds n)) (accepts2_in own (cons2 (cons1 a (erase_annotation u) (erase1 s)) (erase2 t)) p accepted)
    where
      E : EntryIs own p S e
      E =
          let m = (F.own_table.move_facts (move_at own i) (move_at_in own i l)).state_exists in
          let st : (move_at own i).state ≡ table.J + e = ap (λ (m : Move). m.state) (sym (move_at_kept F.extends i l)) ∙ h.state_is in
          let j = F.extends.same_J in
          let below : e < length own.entries = omega arith in
          entry_is_own F.extends below k

      accepted : Accepts2 own (cons2 (cons1 a (erase_annotation u) (erase1 s)) (erase2 t)) p
      accepted = entry_accepts (cons1 a (erase_annotation u) (erase1 s)) E (own_accepts l h x y) z

  -- ---- final states

  -- a final entry is one of the file
  final_entry_lem : {p S e r : ℕ} → Has table.final1 r → r ≡ table.J + e → EntryIs table p S e → EntryIs own p S e
  final_entry_lem {e = e} {r = r} h q E =
      let b : r < states own = F.own_table.final1_exists r (subst (λ (f : ℕ). Has f r) F.extends.same_final1 h) in
      let j = F.extends.same_J in
      let below : e < length own.entries = omega arith in
      entry_is_own F.extends below E

  -- a walk whose top order-1 stack is empty, and whose root chooses a final entry, has arrived, in the target
  pub final_arrives : (p S e r : ℕ) (t : Decorated2) (g : ℕ → ℕ) → Has table.final1 r → r ≡ table.J + e → EntryIs table p S e
      → All S (λ q. Ok2 F q t) → Arrives rules T own (record { control = p; stack = cons2' nil1' t g })
  unfolding Accepts1 in_target erased erase1
  final_arrives p S e r t g h q E z =
      let f : Has own.final1 (table.J + e) = rw (← q) (subst (λ (f : ℕ). Has f r) F.extends.same_final1 h) in
      here (empty_top_arrived rules T p t g) (accepts2_in own (cons2 nil1 (erase2 t)) p (entry_accepts nil1 (final_entry_lem h q E) f z))

  -- a walk from a final control at the empty stack has arrived, in the target
  pub empty_arrives : (p : ℕ) → Has table.final2 p → Arrives rules T own (record { control = p; stack = nil2' })
  unfolding Accepts1 in_target erased erase1
  empty_arrives p h = here (empty_arrived rules T p) (accepts2_in own nil2 p (subst (λ (f : ℕ). Has f p) F.extends.same_final2 h))

  -- ---- order-2 states

  -- an edge whose order-1 state is right about the top, and whose set is right about the rest, makes its state right about the cell that
  -- chooses it
  pub edge_ok : {q n : ℕ} (w : Decorated1) (t : Decorated2) (g : ℕ → ℕ) → EdgeOf table q n → g q ≡ n → Ok1 F (edge_at table n).first w
      → All (edge_at table n).S (λ y. Ok2 F y t) → Ok2 F q (cons2' w t g)
  unfolding Accepts1 erase1
  edge_ok {q} {n} w t g h c x y =
      record {
        inner = λ l. ⊎_elim (by_inner l) (by_entry_lem l) (edge_cases table n h.below);
        control = λ l.
            let r = control_edge F.table l h in
            x.entry q (edge_at table n).S r.0 r.1.first_is r.1.entry t y g (c ∙ r.1.number_is);
      }
    where
      by_inner : P ≤ q → n < length table.inner → Accepts2 own (erase2 (cons2' w t g)) q
      by_inner l b =
          let e : edge_at table n ≡ get_or table.inner n no_edge = edge_at_inner table n b in
          let i = F.table.inner_facts (edge_at table n) (rw e (get_or_in table.inner n no_edge b)) in
          let z : length (edges own) ≡ length own.inner + length own.entries = length_edges own in
          let k : length table.inner ≡ length own.inner = ap (length {A = Edge}) F.extends.same_inner in
          let below : n < length (edges own) = omega arith in
          let f : edge_at table n ≡ edge_at own n = edge_at_kept F.extends n below in
          record {
            number = n;
            edge = record { below = below; state_is = rw f at h.state_is };
            first = rw (← f) (x.inner i.to_inner);
            rest = rw (← f) (λ p m. (y p m).inner (i.set_inner p m));
          }

      by_entry_lem : P ≤ q → (e : ℕ) × (e < length table.entries) × (n ≡ entry_edge table e) → Accepts2 own (erase2 (cons2' w t g)) q
      by_entry_lem l r =
          let k = F.table.entry_control_holds (get_or table.entries r.0 no_entry) (get_or_in table.entries r.0 no_entry r.1) in
          let x = entry_edge_lem table (record { below = r.1; control_is = refl; set_is = refl }) in
          let s : (get_or table.entries r.0 no_entry).control ≡ q =
          sym x.edge.state_is ∙ ap (λ (m : ℕ). (edge_at table m).state) (sym r.2) ∙ h.state_is in
          absurd (omega arith)
