-- One step back: where a rule's operation leaves a stack that p' accepts, there is a derivation by the rule whose result accepts the stack
-- before it, for each of the eight operations.
-- Assumes nothing.
use Rattle.std.specs.Prelude.{ℕ, ◌+◌, ◌<◌, refl, List, [], ◌∷◌}
use Rattle.std.proofs.Math.Path.{subst}
use Rattle.std.proofs.Math.Logic.{inl, inr}
use Rattle.words.proofs.Sets.Laws.{All, all_empty, all_join, all_single}
use Rattle.stacks.specs.Stack.{Stack1, cons1, Stack2, cons2, Annotation, of1, of2, annotation_order}
use Rattle.stacks.specs.Stack.{Operation, rewrite, push1, push2, copy, pop1, pop2, collapse1, collapse2, after}
use Rattle.stacks.specs.System.{Rule}
use Rattle.automata.specs.Automaton.{Automaton, Move, move_at, edge_at}
use Rattle.automata.specs.Automaton.Laws.{EntryIs, EntryMove}
use Rattle.automata.proofs.Acceptance.Laws.{Accepts1, Accepts2}
use Rattle.automata.specs.Derivation.{Joins, joins_of, Derivation, named, edge_sets}
use Rattle.automata.proofs.Derivation.Laws.{conclusion, Concludes, concludes, ByPush, ByEntry, Says}
use Rattle.automata.specs.Facts.{TableFacts}
use Rattle.automata.specs.Facts.Laws.{control_edge}
use Rattle.completeness.specs.Reading.{Meets, choose}
use Rattle.completeness.proofs.Reading.{move_meets, read}
use Rattle.completeness.specs.Turn.{LeavesAccepted}

module _ {P : ℕ} (A : Automaton) (F : TableFacts P A) where
  -- ---- what acceptance from a control says

  -- an entry [p,S] that accepts the top, and S the rest
  pub record AtEntry (p : ℕ) (w : Stack1) (t : Stack2) : Type 0 where
    pub entry : ℕ
    pub S : ℕ
    pub entry_is : EntryIs A p S entry
    pub top : Accepts1 A w (A.J + entry)
    pub rest : All S (Accepts2 A t)

  pub at_entry : {p : ℕ} → p < P → (w : Stack1) (t : Stack2) → Accepts2 A (cons2 w t) p → AtEntry p w t
  unfolding Accepts2
  at_entry l w t x =
      let (e, y) = control_edge F l x.edge in
      record {
        entry = e;
        S = (edge_at A x.number).S;
        entry_is = y.entry;
        top = subst (Accepts1 A w) y.first_is x.first;
        rest = x.rest;
      }

  -- a move on b of an entry [p,S] that accepts the top symbol b annotated u, then s, and S the rest
  pub record AtMove (p b : ℕ) (u : Annotation) (s : Stack1) (t : Stack2) : Type 0 where
    pub move : ℕ
    pub S : ℕ
    pub premise : EntryMove A p S b move
    pub meets : Meets A u s (joins_of (move_at A move))
    pub rest : All S (Accepts2 A t)

  pub at_move : {p : ℕ} → p < P → (b : ℕ) (u : Annotation) (s : Stack1) (t : Stack2) → Accepts2 A (cons2 (cons1 b u s) t) p → AtMove p b u s t
  unfolding Accepts1
  at_move l b u s t x =
      let y = at_entry l (cons1 b u s) t x in
      let m = y.top in
      record {
        move = m.number;
        S = y.S;
        premise = record {
          below = m.move.below;
          symbol_is = m.move.symbol_is;
          entry = y.entry;
          state_is = m.move.state_is;
          entry_is = y.entry_is;
        };
        meets = move_meets A u s F m.number m.move.below m.annotation m.rest;
        rest = y.rest;
      }

  -- ---- the turn

  module _ (n : ℕ) (ρ : Rule) (next : ρ.next < P) where
    -- a derivation of which X holds, with result (joins), S, such that u and s meet the joins and S accepts t
    pub record Turn (X : Derivation → Type 0) (u : Annotation) (s : Stack1) (t : Stack2) : Type 0 where
      pub premise : List ℕ
      pub edges : List ℕ
      pub moves : List ℕ
      pub S : ℕ
      pub joins : Joins
      pub says : X (conclusion n ρ premise edges moves S joins)
      pub meets : Meets A u s joins
      pub rest : All S (Accepts2 A t)

    -- a push of order k: the new top symbol has an annotation v of that order
    push_turn : (b : ℕ) (v u : Annotation) (s : Stack1) (t : Stack2) (start : Move → Joins) (set : ℕ → Move → ℕ)
        → (m : AtMove ρ.next b v (cons1 ρ.symbol u s) t)
        → Meets A u s (start (move_at A m.move)) → All (set m.S (move_at A m.move)) (Accepts2 A t)
        → Turn (ByPush A ρ (annotation_order v) b start set) u s t
    push_turn b v u s t start set m x y =
        let r = read A u s F ρ.symbol (move_at A m.move).R (start (move_at A m.move)) x m.meets.rest in
        record {
          premise = m.move ∷ [];
          edges = [];
          moves = r.moves;
          S = set m.S (move_at A m.move);
          joins = r.joins;
          says = record {
            move = m.move;
            S = m.S;
            premise = m.premise;
            order_fits_holds = m.meets.fits;
            reading = r.reading;
            joins = r.joins;
            joined = r.joined;
            concluded = concludes n ρ _ _ _ _ _;
          };
          meets = r.meets;
          rest = y;
        }

    -- pop 1 and collapse 1
    entry_turn : {w : Stack1} (u : Annotation) (s : Stack1) (t : Stack2) (joins : ℕ → Joins) (e : AtEntry ρ.next w t)
        → Meets A u s (joins (A.J + e.entry)) → Turn (ByEntry A ρ joins) u s t
    entry_turn u s t joins e x =
        record {
          premise = e.entry ∷ [];
          edges = [];
          moves = [];
          S = e.S;
          joins = joins (A.J + e.entry);
          says = record { entry = e.entry; S = e.S; premise = e.entry_is; concluded = concludes n ρ _ _ _ _ _ };
          meets = x;
          rest = e.rest;
        }

    -- pop 2 and collapse 2
    free_turn : (u : Annotation) (s : Stack1) (t : Stack2) (S : ℕ) (joins : Joins)
        → Meets A u s joins → All S (Accepts2 A t) → Turn (Concludes ρ [] [] [] S joins) u s t
    free_turn u s t S joins x y =
        record {
          premise = [];
          edges = [];
          moves = [];
          S = S;
          joins = joins;
          says = concludes n ρ _ _ _ _ _;
          meets = x;
          rest = y;
        }

    pub turn : (o : Operation) (u : Annotation) (s : Stack1) (t : Stack2) → LeavesAccepted A ρ.next (after o ρ.symbol u s t) → Turn (Says A ρ o) u s t
    unfolding after annotation_order
    turn (rewrite b) u s t x =
        let m = at_move next b u s t x in
        record {
          premise = m.move ∷ [];
          edges = [];
          moves = [];
          S = m.S;
          joins = joins_of (move_at A m.move);
          says = record { move = m.move; S = m.S; premise = m.premise; concluded = concludes n ρ _ _ _ _ _ };
          meets = m.meets;
          rest = m.rest;
        }
    turn (push1 b) u s t x =
        let m = at_move next b (of1 s) (cons1 ρ.symbol u s) t x in
        push_turn b (of1 s) u s t _ _ m (record { fits = inl refl; annotation = all_empty _; rest = m.meets.annotation }) m.rest
    turn (push2 b) u s t x =
        let m = at_move next b (of2 t) (cons1 ρ.symbol u s) t x in
        push_turn b (of2 t) u s t _ _ m (record { fits = inl refl; annotation = all_empty _; rest = all_empty _ }) (all_join m.rest m.meets.annotation)
    turn copy u s t x =
        let w : Stack1 = cons1 ρ.symbol u s in
        let m = at_move next ρ.symbol u s (cons2 w t) x in
        let c = choose A m.S w t m.rest in
        let r = read A u s F ρ.symbol (named A c.edges) (joins_of (move_at A m.move)) m.meets c.tops in
        record {
          premise = m.move ∷ [];
          edges = c.edges;
          moves = r.moves;
          S = edge_sets A c.edges;
          joins = r.joins;
          says = record {
            move = m.move;
            S = m.S;
            premise = m.premise;
            chosen = c.choice;
            reading = r.reading;
            joins = r.joins;
            joined = r.joined;
            concluded = concludes n ρ (m.move ∷ []) c.edges r.moves (edge_sets A c.edges) r.joins;
          };
          meets = r.meets;
          rest = c.rests;
        }
    turn pop1 u s t x =
        let e = at_entry next s t x in
        entry_turn u s t _ e (record { fits = inl refl; annotation = all_empty _; rest = all_single _ _ e.top })
    turn pop2 u s t x = free_turn u s t _ _ (record { fits = inl refl; annotation = all_empty _; rest = all_empty _ }) (all_single _ _ x)
    turn collapse1 (of1 v) s t x =
        let e = at_entry next v t x in
        entry_turn (of1 v) s t _ e (record { fits = inr refl; annotation = all_single _ _ e.top; rest = all_empty _ })
    turn collapse1 (of2 v) s t x = absurd x
    turn collapse2 (of1 v) s t x = absurd x
    turn collapse2 (of2 v) s t x = free_turn (of2 v) s t _ _ (record { fits = inr refl; annotation = all_single _ _ x; rest = all_empty _ }) (all_empty _)
